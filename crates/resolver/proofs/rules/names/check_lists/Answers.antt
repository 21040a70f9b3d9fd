use Rattle.std.proofs.Common.{List, ◌∙◌, refl}
use Rattle.ili_grammar.specs.declared.syntax.IdentList as list
use Rattle.ili_grammar.specs.Values.{lists_of}
use Rattle.resolver.specs.NameIndexes.{names_in}
use Rattle.resolver.specs.Scopes.{texts}
use Rattle.resolver.specs.Rules.{lists_faults}
use Rattle.resolver.proofs.ListLemmas.Folds.{told_over}
use Rattle.resolver.proofs.rules.names.check_lists.Goals as goal

pub loop-list-preserved : goal.loop-list-preserved
loop-list-preserved c =
    told_over (λ (l : List list.IdentList). lists_faults (texts (names_in c.args.attributes.now))
    (lists_of l)) _ _ _ _ _ _ _ (λ rest. refl) refl c.loop-list-test.true c.list-item.is
    c.in_ok-check_list.ensures
    ∙ c.loop-list.invariant
