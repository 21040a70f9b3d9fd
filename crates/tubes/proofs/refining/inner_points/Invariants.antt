use Rattle.std.proofs.Common.{◌≡◌, Some}
use Rattle.arc_predicates.specs.Circles.{half_arc}
use Rattle.tubes.specs.HalfArcTubes.{inner_points}
use Rattle.tubes.proofs.refining.inner_points.Given as goal

abbrev pub invariant-loop : goal.invariant-loop
invariant-loop l = inner_points (half_arc l.circle) l.counter ≡ Some l.inner.items
