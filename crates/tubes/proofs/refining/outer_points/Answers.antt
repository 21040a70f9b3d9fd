use Rattle.std.proofs.Common.{◌≡◌, ◌^◌, ◌∙◌, List, ap, arith, subst, sym}
use Rattle.plane.specs.Lists.{Each}
use Rattle.plane.specs.Rule.Turns.{AreNear}
use Rattle.plane.specs.declared.kinds.Point.{Point}
use Rattle.tubes.proofs.TubePoints.{from_in_disk}
use Rattle.arc_predicates.specs.Circles.{half_arc}
use Rattle.tubes.specs.HalfArcTubes.{outer_points}
use Rattle.tubes.specs.Making.{AreSteps, IsInDisk}
use Rattle.tubes.proofs.Rounds.{put_before, put_nothing, self_near, outer_ends, outer_step}
use Rattle.tubes.proofs.Rounds.{outer_stops, all_dropped, dropped}
use Rattle.tubes.proofs.refining.outer_points.Goals as goal

pub loop-point-init : goal.loop-point-init
loop-point-init c =
    let h = half_arc c.args.circle.now in
    record {
      made = ap (λ (s : List Point). put_before s (outer_points h h.from c.args.inner.now))
          c.in_ok-outer.ensures.items ∙ put_nothing _;
      first = from_in_disk h;
      inside = c.requires.inside;
      before = self_near (2 ^ 31) h.from (omega arith);
      near = c.requires.near;
      steps = c.requires.steps;
    }

pub returns-in_default : goal.returns-in_default
returns-in_default c =
    let h = half_arc c.args.circle.now in
    let l = c.loop-point in
    let d = dropped c.args.inner.now l.point-index c.loop-point-test.true in
    outer_stops h l.before _ _ l.outer.items _ c.in_default.ensures
    (subst (λ qs. put_before l.outer.items (outer_points h l.before qs)
    ≡ outer_points h h.from c.args.inner.now) d l.invariant.made)

pub loop-point-preserved : goal.loop-point-preserved
loop-point-preserved c =
    let h = half_arc c.args.circle.now in
    let l = c.loop-point in
    let d = dropped c.args.inner.now l.point-index c.loop-point-test.true in
    let near = subst (λ qs. Each (AreNear (2 ^ 31) h.from) qs) d l.invariant.near in
    let inside = subst (λ qs. Each (IsInDisk h) qs) d l.invariant.inside in
    let steps = subst (λ qs. AreSteps l.before qs) d l.invariant.steps in
    record {
      made = outer_step h l.before _ c.in-Some.above _ l.outer.items _ _
          (sym c.in-Some.ensures) c.in_ok-push.ensures.items
          (subst (λ qs. put_before l.outer.items (outer_points h l.before qs)
          ≡ outer_points h h.from c.args.inner.now) d l.invariant.made);
      first = inside.0;
      inside = inside.1;
      before = near.0;
      near = near.1;
      steps = steps.1;
    }

pub returns : goal.returns
returns c = outer_ends (half_arc c.args.circle.now) c.loop-point.before _ c.loop-point.outer.items _
    (all_dropped c.args.inner.now c.loop-point.point-index c.loop-point-test.false)
    c.loop-point.invariant.made
