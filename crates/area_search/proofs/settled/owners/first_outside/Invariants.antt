use Rattle.std.proofs.Common.{◌≡◌, ℕ, ◌<◌, slice_index}
use Rattle.area_search.proofs.settled.owners.first_outside.Given as goal

abbrev pub invariant-loop-point : goal.invariant-loop-point
invariant-loop-point l = (j : ℕ) → j < l.point → slice_index l.faces j ≡ 0 → ⊥
