use Rattle.std.proofs.Common.{◌≡◌, ◌++◌, take}
use Rattle.straight_predicates.specs.Slopes.{ray_edges}
use Rattle.straight_predicates.proofs.events.add_numbers.Given as goal

abbrev pub invariant-loop-ray : goal.invariant-loop-ray
invariant-loop-ray l = l.numbers.items ≡ l.fn.numbers.items ++ ray_edges (take l.ray-index l.rays)
