use Rattle.std.proofs.Common.{◌≡◌, take, map}
use Rattle.area_search.proofs.points.points_at.Given as goal

abbrev pub invariant-loop-point : goal.invariant-loop-point
invariant-loop-point l = l.at.items ≡ map (λ p. p.at) (take l.point-index l.points)
