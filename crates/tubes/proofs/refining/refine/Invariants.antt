use Rattle.std.proofs.Common.{◌≡◌, ◌^◌, drop}
use Rattle.plane.specs.Lists.{Each}
use Rattle.plane.specs.Rule.Turns.{AreNear}
use Rattle.arc_predicates.specs.Circles.{half_arc}
use Rattle.tubes.specs.HalfArcTubes.{refine}
use Rattle.tubes.specs.Making.{AreSteps, IsInDisk}
use Rattle.tubes.proofs.Rounds.{put_before}
use Rattle.tubes.proofs.refining.refine.Given as goal

abbrev pub invariant-loop-point : goal.invariant-loop-point
invariant-loop-point l = record {
  made : put_before l.made.items (refine (half_arc l.circle) l.before (drop l.point-index l.points))
      ≡ refine (half_arc l.circle) l.circle.s l.points;
  before : AreNear (2 ^ 31) l.circle.s l.before;
  near : Each (AreNear (2 ^ 31) l.circle.s) (drop l.point-index l.points);
  first : IsInDisk (half_arc l.circle) l.before;
  inside : Each (IsInDisk (half_arc l.circle)) (drop l.point-index l.points);
  steps : AreSteps l.before (drop l.point-index l.points);
}
