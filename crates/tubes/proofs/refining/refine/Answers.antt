use Rattle.std.proofs.Common.{◌≡◌, ◌^◌, ◌∙◌, List, ap, arith, subst, sym}
use Rattle.plane.specs.Lists.{Each}
use Rattle.plane.specs.Rule.Turns.{AreNear}
use Rattle.plane.specs.declared.kinds.Point.{Point}
use Rattle.tubes.proofs.TubePoints.{from_in_disk}
use Rattle.arc_predicates.specs.Circles.{half_arc}
use Rattle.tubes.specs.HalfArcTubes.{refine}
use Rattle.tubes.specs.Making.{AreSteps, IsInDisk}
use Rattle.tubes.proofs.Rounds.{put_before, put_nothing, self_near, refine_ends, refine_step}
use Rattle.tubes.proofs.Rounds.{refine_stops, all_dropped, dropped, pushed_two}
use Rattle.tubes.proofs.refining.refine.Goals as goal

pub loop-point-init : goal.loop-point-init
loop-point-init c =
    let h = half_arc c.args.circle.now in
    record {
      made = ap (λ (s : List Point). put_before s (refine h h.from c.args.points.now))
          c.in_ok-made.ensures.items ∙ put_nothing _;
      first = from_in_disk h;
      inside = c.requires.inside;
      before = self_near (2 ^ 31) h.from (omega arith);
      near = c.requires.near;
      steps = c.requires.steps;
    }

pub returns-in_default : goal.returns-in_default
returns-in_default c =
    let h = half_arc c.args.circle.now in
    let l = c.loop-point in
    let d = dropped c.args.points.now l.point-index c.loop-point-test.true in
    refine_stops h l.before _ _ l.made.items _ c.in_default.ensures
    (subst (λ qs. put_before l.made.items (refine h l.before qs)
    ≡ refine h h.from c.args.points.now) d l.invariant.made)

pub loop-point-preserved : goal.loop-point-preserved
loop-point-preserved c =
    let h = half_arc c.args.circle.now in
    let l = c.loop-point in
    let d = dropped c.args.points.now l.point-index c.loop-point-test.true in
    let near = subst (λ qs. Each (AreNear (2 ^ 31) h.from) qs) d l.invariant.near in
    let inside = subst (λ qs. Each (IsInDisk h) qs) d l.invariant.inside in
    let steps = subst (λ qs. AreSteps l.before qs) d l.invariant.steps in
    record {
      made = refine_step h l.before _ c.in-Some.between _ l.made.items _ _ (sym c.in-Some.ensures)
          (pushed_two l.made.items _ _ c.in-Some.between _ c.in_ok-push-2.ensures.items
          c.in_ok-push.ensures.items)
          (subst (λ qs. put_before l.made.items (refine h l.before qs)
          ≡ refine h h.from c.args.points.now) d l.invariant.made);
      first = inside.0;
      inside = inside.1;
      before = near.0;
      near = near.1;
      steps = steps.1;
    }

pub returns : goal.returns
returns c = refine_ends (half_arc c.args.circle.now) c.loop-point.before _ c.loop-point.made.items _
    (all_dropped c.args.points.now c.loop-point.point-index c.loop-point-test.false)
    c.loop-point.invariant.made
