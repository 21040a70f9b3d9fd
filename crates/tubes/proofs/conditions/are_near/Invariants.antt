use Rattle.std.proofs.Common.{◌^◌, drop}
use Rattle.plane.specs.Lists.{Each}
use Rattle.plane.specs.Rule.Turns.{AreNear}
use Rattle.tubes.proofs.conditions.are_near.Given as goal

abbrev pub invariant-loop-point : goal.invariant-loop-point
invariant-loop-point l = record {
  rest : Each (AreNear (2 ^ 28) l.circle.s) l.points
      → Each (AreNear (2 ^ 28) l.circle.s) (drop l.point-index l.points);
  all : Each (AreNear (2 ^ 28) l.circle.s) (drop l.point-index l.points)
      → Each (AreNear (2 ^ 28) l.circle.s) l.points;
}
