use Rattle.std.proofs.Common.{◌≡◌, ◌++◌, drop}
use Rattle.certificate_checker.specs.Placed.{spots_from}
use Rattle.certificate_checker.proofs.points.spots_of.Given as goal

abbrev pub invariant-loop-j : goal.invariant-loop-j
invariant-loop-j l = l.spots.items ++ spots_from l.j (drop l.j l.points) ≡ spots_from 0 l.points
