use Rattle.std.proofs.Common.{◌≡◌, List, map, ap, ◌∙◌}
use Rattle.ili_grammar.specs.declared.syntax.TableSyntax as written
use Rattle.ili_grammar.specs.Values.{tables_of}
use Rattle.resolver.specs.ScopeViews.{scope_of}
use Rattle.resolver.specs.Models.{table}
use Rattle.resolver.specs.Values.{tables_of as built_tables}
use Rattle.resolver.proofs.build.topics.topic_in.Goals as goal

pub returns : goal.returns
returns c =
    let tables : built_tables c.in_ok-tables.field-0.items
    ≡ map (table (scope_of c.args.scope.now)) (tables_of c.args.written.now.tables.items) =
    c.in_ok-tables.ensures
    ∙ ap (λ (l : List written.TableSyntax). map (table (scope_of c.args.scope.now))
    (tables_of l)) c.deref.ensures.value in
    let name = c.in_ok-new.ensures ∙ c.bytes.ensures in
    λ z. record { name = name z; tables = tables z }
