use Rattle.std.proofs.Common.{refl, sym, ap, ◌∙◌}
use Rattle.itffaults.specs.FaultText.Text.{Telling}
use Rattle.itffaults.specs.FaultText.Verdicts.{is_faulty, verdict_of}
use Rattle.itffaults.proofs.FaultTextLemmas.TellingKinds.{some_area, none_left, pass_over}
use Rattle.itffaults.proofs.fault_text.verdicts.has_faulty.Goals as goal

pub loop-area-init : goal.loop-area-init
loop-area-init c = refl

pub returns-then-is_faulty : goal.returns-then-is_faulty
returns-then-is_faulty c =
    let here = ap is_faulty (sym c.verdict_of.ensures) ∙ sym c.is_faulty.ensures
    ∙ c.if-is_faulty.true in
    sym (some_area (λ (t : Telling). is_faulty (verdict_of t.faults)) c.args.areas.now
    c.loop-area.area-index c.area-item.result c.area-item.result c.loop-area-test.true
    c.area-item.is here)

pub loop-area-preserved : goal.loop-area-preserved
loop-area-preserved c =
    let here = ap is_faulty (sym c.verdict_of.ensures) ∙ sym c.is_faulty.ensures
    ∙ c.if-is_faulty.false in
    pass_over (λ (t : Telling). is_faulty (verdict_of t.faults)) c.args.areas.now
    c.loop-area.area-index c.area-item.result c.area-item.result c.loop-area-test.true
    c.area-item.is here ∙ c.loop-area.invariant

pub returns : goal.returns
returns c = none_left (λ (t : Telling). is_faulty (verdict_of t.faults)) c.args.areas.now
    c.loop-area.area-index c.loop-area-test.false ∙ c.loop-area.invariant
