use Rattle.std.proofs.Common.{◌≡◌, List, ap, ◌∙◌}
use Rattle.ili_grammar.specs.declared.syntax.TableSyntax as table
use Rattle.ili_grammar.specs.Values.{domains_of, tables_of}
use Rattle.resolver.specs.Scopes.{texts, table_names}
use Rattle.resolver.specs.NameIndexes.{names_in}
use Rattle.resolver.specs.DomainScopes.{domains_in}
use Rattle.resolver.proofs.ListLemmas.Named.{tables_read}
use Rattle.resolver.proofs.scope.topic_scope.TopicScope.new.Goals as goal

pub returns : goal.returns
returns c =
    let own : domains_in c.in_ok-own.own
    ≡ domains_of c.args.topic.now.domains.items =
    c.in_ok-own.ensures.domains ∙ ap domains_of c.deref-2.ensures.value in
    let names : names_in c.in_ok-tables.tables
    ≡ table_names (tables_of c.args.topic.now.tables.items) =
    c.in_ok-tables.ensures ∙ tables_read c.deref.result.now
    ∙ ap (λ (l : List table.TableSyntax). table_names (tables_of l)) c.deref.ensures.value in
    λ z. record { above = domains_in c.args.above.now; own = own z; tables = texts (names z) }
