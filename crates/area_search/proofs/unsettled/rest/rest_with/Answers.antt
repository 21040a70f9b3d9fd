use Rattle.std.proofs.Common.{ℕ, refl, subst, false}
use Rattle.plane.specs.Rule.Plans.{plan}
use Rattle.area_search.specs.Unsettled.CurvePoints.{AreMarkedTo, AreNumbers}
use Rattle.area_search.proofs.UnsettledLemmas.SetAsideCurves.{left_are, left_drawn}
use Rattle.area_search.proofs.unsettled.rest.rest_with.Goals as goal

pub invariant_of-result-clause-curves_drawn : goal.invariant_of-result-clause-curves_drawn
invariant_of-result-clause-curves_drawn c =
    let w = c.args.drawing.now in
    left_drawn w.window.low w.window.high w.curves.items c.deref.result.now
    c.in_ok-curves.curves.items c.in_ok-numbers.numbers.items c.deref-2.result.now
    c.deref.ensures.value c.deref-2.ensures.value
    (subst (λ (n : ℕ). AreNumbers n c.in_ok-numbers.numbers.items) c.requires.size
    c.in_ok-numbers.ensures.known) c.in_ok-curves.ensures w.curves_drawn

pub returns : goal.returns
returns c = record {
  numbers = subst (λ (n : ℕ). AreMarkedTo c.args.marks.now false n c.in_ok-numbers.numbers.items)
      c.requires.size c.in_ok-numbers.ensures;
  curves = left_are (plan c.args.drawing.now).curves c.deref.result.now c.in_ok-curves.curves.items
      c.in_ok-numbers.numbers.items c.deref-2.result.now c.deref.ensures.value
      c.deref-2.ensures.value c.in_ok-curves.ensures;
  points_are = refl;
}
