use Rattle.std.proofs.Common.{ℕ, ◌<◌}
use Rattle.level_breaks.specs.LevelLists.{IsBare}
use Rattle.level_breaks.proofs.listing.first_bare.Given as goal

abbrev pub invariant-loop-number : goal.invariant-loop-number
invariant-loop-number l = (k : ℕ) → k < l.number → IsBare l.curves l.tubes k → ⊥
