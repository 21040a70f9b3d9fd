use Rattle.std.proofs.Common.{◌≡◌, ◌++◌, List, sym, subst, ◌∙◌, OnOk}
use Rattle.ili_grammar.specs.declared.syntax.TableSyntax as table
use Rattle.ili_grammar.specs.Values.{tables_of, topic_of}
use Rattle.resolver.specs.Faults.{first_from}
use Rattle.resolver.specs.FaultViews.{fault_in}
use Rattle.resolver.specs.Limits.{IsBoundedScope}
use Rattle.resolver.specs.Scopes.{Scope, inside}
use Rattle.resolver.specs.DomainScopes.{domains_in}
use Rattle.resolver.specs.Rules.{domains_faults, tables_faults}
use Rattle.resolver.proofs.BuildLemmas.Bounded.{bounded_inside}
use Rattle.resolver.proofs.rules.topics.check_topic.Goals as goal

pub check_parts-requires-clause-scope : goal.check_parts-requires-clause-scope
check_parts-requires-clause-scope c =
    subst IsBoundedScope (sym (c.scope.ensures ∙ c.in_ok-own.ensures))
    (bounded_inside (domains_in c.args.above.now)
    (topic_of c.args.topic.now) c.requires.above c.requires.topic)

pub returns : goal.returns
returns c =
    subst (λ (l : List table.TableSyntax). OnOk c.check_parts.result
    (fault_in c.check_parts.new.earliest ≡ first_from (fault_in c.args.earliest.now)
    (domains_faults (inside (domains_in c.args.above.now) (topic_of c.args.topic.now))
    ++ tables_faults (inside (domains_in c.args.above.now) (topic_of c.args.topic.now))
    (tables_of l)))) c.deref.ensures.value
    (subst (λ (s : Scope). OnOk c.check_parts.result
    (fault_in c.check_parts.new.earliest
    ≡ first_from (fault_in c.args.earliest.now)
    (domains_faults s ++ tables_faults s (tables_of c.deref.result.now)))) (c.scope.ensures
    ∙ c.in_ok-own.ensures) c.check_parts.ensures)
