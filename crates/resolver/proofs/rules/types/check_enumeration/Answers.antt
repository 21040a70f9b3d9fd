use Rattle.std.proofs.Common.{List, ◌∙◌, refl}
use Rattle.ili_grammar.specs.declared.syntax.Element as element
use Rattle.ili_grammar.specs.Values.{elements_of}
use Rattle.resolver.specs.Rules.{parts_faults}
use Rattle.resolver.proofs.ListLemmas.Folds.{told_over}
use Rattle.resolver.proofs.rules.types.check_enumeration.Goals as goal

pub loop-element-preserved : goal.loop-element-preserved
loop-element-preserved c =
    told_over (λ (l : List element.Element). parts_faults (elements_of l)) _ _ _ _ _ _ _
    (λ rest. refl) refl c.loop-element-test.true c.element-item.is c.in_ok-check_parts.ensures
    ∙ c.loop-element.invariant
