use Rattle.std.proofs.Common.{arith, sym, subst, List}
use Rattle.plane.specs.Rule.Plans.{plan}
use Rattle.certificate.specs.declared.notes.PointPlace.{PointPlace}
use Rattle.tubes.specs.Settled.{AreFacings}
use Rattle.certificate_checker.specs.Cases.{AreFirsts, AreHeld}
use Rattle.certificate_checker.proofs.Judging.{fits}
use Rattle.certificate_checker.proofs.checking.judge_events.Goals as goal

pub judge_case-requires-clause-fit : goal.judge_case-requires-clause-fit
judge_case-requires-clause-fit c =
    let d = plan c.args.drawing.now in
    let level = c.args.certificate.now.level in
    fits _ c.args.list.now c.requires.listed c.deref-2.ensures.value c.deref-3.ensures.value
    c.deref-6.ensures.value (let f = c.args.drawing.now.few_points in omega (arith, f))
    (subst (AreFacings d (λ n. level)) (sym c.deref-4.ensures.value)
    (c.in_ok-facings.ensures (λ n. level) c.requires.listed.edges))
    (subst (AreFirsts d level) (sym c.deref-5.ensures.value) c.in_ok-firsts.ensures)
    (subst (λ (ps : List PointPlace). AreHeld d level ps c.deref-7.result.now) c.deref.ensures.value
    (subst (AreHeld d level c.deref.result.now)
    (sym c.deref-7.ensures.value) c.in_ok-held.ensures))
