use Rattle.std.proofs.Common.{refl, sym, ap, ◌∙◌}
use Rattle.itffaults.specs.FaultText.Text.{Telling}
use Rattle.itffaults.specs.FaultText.Verdicts.{is_unsettled, verdict_of}
use Rattle.itffaults.proofs.FaultTextLemmas.TellingKinds.{some_area, none_left, pass_over}
use Rattle.itffaults.proofs.fault_text.verdicts.has_unsettled.Goals as goal

pub loop-area-init : goal.loop-area-init
loop-area-init c = refl

pub returns-then-is_unsettled : goal.returns-then-is_unsettled
returns-then-is_unsettled c =
    let here = ap is_unsettled (sym c.verdict_of.ensures) ∙ sym c.is_unsettled.ensures
    ∙ c.if-is_unsettled.true in
    sym (some_area (λ (t : Telling). is_unsettled (verdict_of t.faults)) c.args.areas.now
    c.loop-area.area-index c.area-item.result c.area-item.result c.loop-area-test.true
    c.area-item.is here)

pub loop-area-preserved : goal.loop-area-preserved
loop-area-preserved c =
    let here = ap is_unsettled (sym c.verdict_of.ensures) ∙ sym c.is_unsettled.ensures
    ∙ c.if-is_unsettled.false in
    pass_over (λ (t : Telling). is_unsettled (verdict_of t.faults)) c.args.areas.now
    c.loop-area.area-index c.area-item.result c.area-item.result c.loop-area-test.true
    c.area-item.is here ∙ c.loop-area.invariant

pub returns : goal.returns
returns c = none_left (λ (t : Telling). is_unsettled (verdict_of t.faults)) c.args.areas.now
    c.loop-area.area-index c.loop-area-test.false ∙ c.loop-area.invariant
