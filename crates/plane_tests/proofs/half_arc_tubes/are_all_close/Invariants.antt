use Rattle.std.proofs.Common.{drop}
use Rattle.plane.specs.Lists.{Each}
use Rattle.straight_predicates.specs.Meetings.{AreClose}
use Rattle.plane_tests.proofs.half_arc_tubes.are_all_close.Given as goal

abbrev pub invariant-loop-point : goal.invariant-loop-point
invariant-loop-point l = Each (λ p. AreClose p l.at) (drop l.point-index l.points)
    → Each (λ p. AreClose p l.at) l.points
