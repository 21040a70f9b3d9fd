use Rattle.std.proofs.Common.{◌+◌, ◌*◌, ◌^◌, ◌<◌, ap, arith, subst, sym, ◌∙◌, length, List, [], ◌∷◌}
use Rattle.std.proofs.Common.{◌++◌}
use Rattle.plane.specs.Lists.{Each}
use Rattle.plane.specs.Rule.Turns.{AreNear}
use Rattle.plane.specs.declared.kinds.Point.{Point}
use Rattle.arc_predicates.specs.Circles.{half_arc}
use Rattle.tubes.specs.HalfArcTubes.{refine}
use Rattle.tubes.specs.Making.{AreMade, AreSteps, IsInDisk}
use Rattle.tubes.proofs.Rounds.{each_near, first_round, few_points, inner_at_hand, next_round}
use Rattle.tubes.proofs.Rounds.{rounds_stop}
use Rattle.tubes.proofs.TubePoints.{inner_in_disk}
use Rattle.tubes.proofs.refining.inner_points.Goals as goal

pub loop-init : goal.loop-init
loop-init c =
    first_round (half_arc c.args.circle.now) _ (c.in_ok-push.ensures.items
    ∙ ap (λ (s : List Point). s ++ c.args.circle.now.m ∷ []) c.in_ok-inner.ensures.items)

pub refine-requires-clause-near : goal.refine-requires-clause-near
refine-requires-clause-near c =
    let k = c.args.circle.now in
    let l = c.requires.level in
    let t = c.loop-test.true in
    subst (Each (AreNear (2 ^ 31) k.s)) (sym c.deref.ensures.value)
    (each_near k.s ((c.loop.counter + 1) * 2 ^ 28) (2 ^ 31) c.loop.inner.items
    (omega (arith, l, t))
    (inner_at_hand (half_arc k) c.loop.counter c.loop.inner.items k.has c.loop.invariant).near)

pub refine-requires-clause-steps : goal.refine-requires-clause-steps
refine-requires-clause-steps c =
    let k = c.args.circle.now in
    subst (AreSteps k.s) (sym c.deref.ensures.value)
    (inner_at_hand (half_arc k) c.loop.counter c.loop.inner.items k.has c.loop.invariant).steps

pub refine-requires-clause-inside : goal.refine-requires-clause-inside
refine-requires-clause-inside c =
    let h = half_arc c.args.circle.now in
    subst (Each (IsInDisk h)) (sym c.deref.ensures.value)
    (inner_in_disk h c.loop.counter c.loop.inner.items c.loop.invariant)

pub refine-requires-clause-few : goal.refine-requires-clause-few
refine-requires-clause-few c =
    let k = c.args.circle.now in
    let l = c.requires.level in
    let t = c.loop-test.true in
    subst (λ (vs : List Point). length vs < 2 ^ 20) (sym c.deref.ensures.value)
    (few_points (half_arc k) c.loop.counter c.loop.inner.items
    (omega (arith, l, t)) c.loop.invariant)

pub returns-in-None : goal.returns-in-None
returns-in-None c =
    let h = half_arc c.args.circle.now in
    let t = c.loop-test.true in
    let e = subst (AreMade (refine h h.from c.deref.result.now)) c.in-None.is
    c.in_ok-finer.ensures in
    rounds_stop h (c.loop.counter + 1) (c.args.level + 1) (omega (arith, t))
    (sym (next_round h c.loop.counter c.loop.inner.items c.loop.invariant)
    ∙ ap (refine h h.from) (sym c.deref.ensures.value) ∙ e)

pub loop-preserved : goal.loop-preserved
loop-preserved c =
    let h = half_arc c.args.circle.now in
    let e = subst (AreMade (refine h h.from c.deref.result.now)) c.in-Some.is
    c.in_ok-finer.ensures in
    sym (next_round h c.loop.counter c.loop.inner.items c.loop.invariant)
    ∙ ap (refine h h.from) (sym c.deref.ensures.value) ∙ e
