use Rattle.std.proofs.Common.{List, ◌∙◌, refl}
use Rattle.ili_grammar.specs.declared.syntax.Element as element
use Rattle.ili_grammar.specs.Values.{elements_of}
use Rattle.resolver.specs.FaultViews.{fault_in}
use Rattle.resolver.specs.Rules.{parts_faults}
use Rattle.resolver.proofs.ListLemmas.Folds.{told_over}
use Rattle.resolver.proofs.BuildLemmas.Types.{parts_begin}
use Rattle.resolver.proofs.rules.types.+check_parts.Goals as goal

pub loop-part-init : goal.loop-part-init
loop-part-init t c =
    parts_begin c.args.element.now c.deref.result.now (fault_in c.args.earliest.now)
    (fault_in c.check_elements.new.earliest) c.deref.ensures.value c.in_ok-check_elements.ensures

pub loop-part-preserved : goal.loop-part-preserved
loop-part-preserved t c =
    told_over (λ (l : List element.Element). parts_faults (elements_of l)) _ _ _ _ _ _ _
    (λ rest. refl) c.deref-part-items.ensures.value c.loop-part-test.true c.part-item.is
    c.in_ok-check_parts.ensures
    ∙ c.loop-part.invariant
