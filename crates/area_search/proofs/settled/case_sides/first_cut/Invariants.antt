use Rattle.std.proofs.Common.{ℕ, ◌<◌}
use Rattle.area_search.specs.Settled.CaseSides.{IsOneFaced}
use Rattle.area_search.proofs.settled.case_sides.first_cut.Given as goal

abbrev pub invariant-loop-number : goal.invariant-loop-number
invariant-loop-number l = (k : ℕ) → k < l.number → IsOneFaced l.besides k → ⊥
