use Rattle.std.proofs.Common.{◌≡◌, ◌+◌, ◌*◌, ◌^◌, ◌<◌, List, Some, ap, arith, length, subst, sym}
use Rattle.std.proofs.Common.{◌∙◌}
use Rattle.plane.specs.Lists.{Each}
use Rattle.plane.specs.Rule.Turns.{AreNear}
use Rattle.plane.specs.declared.kinds.Point.{Point}
use Rattle.arc_predicates.specs.Circles.{half_arc}
use Rattle.tubes.specs.HalfArcTubes.{inner_points, outer_points}
use Rattle.tubes.specs.Making.{AreMade, AreSteps, IsInDisk}
use Rattle.tubes.proofs.Rounds.{each_near, few_points, inner_at_hand}
use Rattle.tubes.proofs.TubePoints.{inner_in_disk, outer_size}
use Rattle.tubes.proofs.making.tube_round.Goals as goal

pub outer_points-requires-clause-near : goal.outer_points-requires-clause-near
outer_points-requires-clause-near c =
    let k = c.args.circle.now in
    let l = c.requires.level in
    let e = subst (AreMade (inner_points (half_arc k) (c.args.level + 1))) c.in-Some.is
    c.in_ok-inner.ensures in
    subst (Each (AreNear (2 ^ 31) k.s)) (sym c.deref.ensures.value)
    (each_near k.s ((c.args.level + 1 + 1) * 2 ^ 28) (2 ^ 31) c.in-Some.inner.items
    (omega (arith, l))
    (inner_at_hand (half_arc k) (c.args.level + 1) c.in-Some.inner.items k.has e).near)

pub outer_points-requires-clause-steps : goal.outer_points-requires-clause-steps
outer_points-requires-clause-steps c =
    let k = c.args.circle.now in
    let e = subst (AreMade (inner_points (half_arc k) (c.args.level + 1))) c.in-Some.is
    c.in_ok-inner.ensures in
    subst (AreSteps k.s) (sym c.deref.ensures.value)
    (inner_at_hand (half_arc k) (c.args.level + 1) c.in-Some.inner.items k.has e).steps

pub outer_points-requires-clause-inside : goal.outer_points-requires-clause-inside
outer_points-requires-clause-inside c =
    let h = half_arc c.args.circle.now in
    let e = subst (AreMade (inner_points h (c.args.level + 1))) c.in-Some.is
    c.in_ok-inner.ensures in
    subst (Each (IsInDisk h)) (sym c.deref.ensures.value)
    (inner_in_disk h (c.args.level + 1) c.in-Some.inner.items e)

pub are_corners-requires : goal.are_corners-requires
are_corners-requires c =
    let k = c.args.circle.now in
    let e : outer_points (half_arc k) k.s c.in-Some.inner.items ≡ Some c.in-Some-2.outer.items =
    ap (outer_points (half_arc k) k.s) (sym c.deref.ensures.value)
    ∙ subst (AreMade (outer_points (half_arc k) k.s c.deref.result.now)) c.in-Some-2.is
    c.in_ok-outer.ensures in
    ap length c.deref-2.ensures.value
    ∙ sym (outer_size (half_arc k) k.s c.in-Some.inner.items c.in-Some-2.outer.items e)
    ∙ ap length (sym c.deref-3.ensures.value)

pub with_first-requires : goal.with_first-requires
with_first-requires c =
    let k = c.args.circle.now in
    let l = c.requires.level in
    let e = subst (AreMade (inner_points (half_arc k) (c.args.level + 1))) c.in-Some.is
    c.in_ok-inner.ensures in
    subst (λ (vs : List Point). length vs < 2 ^ 20) (sym c.deref-4.ensures.value)
    (few_points (half_arc k) (c.args.level + 1) c.in-Some.inner.items (omega (arith, l)) e)
