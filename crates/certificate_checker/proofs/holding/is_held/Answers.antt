use Rattle.std.proofs.Common.{rules, ◌≡◌, ◌↔◌, ◌∙◌, false, IsTrue, subst, sym}
use Rattle.plane.specs.Rule.Curves.{arc}
use Rattle.plane.specs.Rule.Plans.{IsHalfArc, curve, plan}
use Rattle.plane.specs.Rule.Windows.{IsDrawn}
use Rattle.plane.specs.declared.kinds.Curve.{Curve}
use Rattle.certificate.specs.declared.notes.PointPlace.{PointPlace}
use Rattle.tubes.specs.TubedEdges.{HasTube}
use Rattle.certificate_checker.specs.Cases.{IsHeldAt}
use Rattle.certificate_checker.proofs.Entries.{entry}
use Rattle.certificate_checker.proofs.HeldPoints.{held_is}
use Rattle.certificate_checker.proofs.Judging.{if_ok}
use Rattle.certificate_checker.proofs.ListParts.{refused, unfit}
use Rattle.certificate_checker.proofs.holding.is_held.Goals as goal

pub is_in_tube-requires-clause-drawn : goal.is_in_tube-requires-clause-drawn
is_in_tube-requires-clause-drawn c =
    let d = c.args.drawing.now in
    let t : IsTrue c.is_half_arc.result = search rules in
    let h : IsHalfArc (plan d) c.in-Tube.curve = c.is_half_arc.ensures.0 t in
    subst (IsDrawn d.window.low d.window.high) (sym c.index-arc.ensures)
    (d.curves_drawn c.in-Tube.curve c.index-arc.result.now h.there)

pub is_in_tube-requires-clause-tube : goal.is_in_tube-requires-clause-tube
is_in_tube-requires-clause-tube c =
    let d = plan c.args.drawing.now in
    let t : IsTrue c.is_half_arc.result = search rules in
    let h : IsHalfArc d c.in-Tube.curve = c.is_half_arc.ensures.0 t in
    let e : c.index-arc.result.now ≡ curve d c.in-Tube.curve = c.index-arc.ensures
    ∙ entry d.curves c.in-Tube.curve c.index-arc.result.now _ h.there in
    subst (λ (c' : Curve). HasTube (arc c') c.args.level) (sym e)
    (c.requires.tubes c.in-Tube.curve h)

pub returns-then-not-is_half_arc : goal.returns-then-not-is_half_arc
returns-then-not-is_half_arc c =
    let d = plan c.args.drawing.now in
    let n : c.is_half_arc.result ≡ false = search rules in
    refused (λ x. unfit c.is_half_arc.result c.is_half_arc.ensures n
    (subst (λ (p : PointPlace). IsHeldAt d c.args.level p c.args.at) c.in-Tube.is x).half_arc)

pub returns : goal.returns
returns c =
    let d = plan c.args.drawing.now in
    let t : IsTrue c.is_half_arc.result = search rules in
    let h : IsHalfArc d c.in-Tube.curve = c.is_half_arc.ensures.0 t in
    let e : c.index-arc.result.now ≡ curve d c.in-Tube.curve = c.index-arc.ensures
    ∙ entry d.curves c.in-Tube.curve c.index-arc.result.now _ h.there in
    if_ok _ _ c.is_in_tube.result
    (λ b f. subst (λ (p : PointPlace). IsTrue b ↔ IsHeldAt d c.args.level p c.args.at)
    (sym c.in-Tube.is)
    (held_is d c.args.level c.in-Tube.curve c.in-Tube.inside c.args.at c.index-arc.result.now b
    h e f))
    c.is_in_tube.ensures
