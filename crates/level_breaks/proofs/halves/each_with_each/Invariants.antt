use Rattle.std.proofs.Common.{ℕ, ◌<◌, ◌≤◌}
use Rattle.level_breaks.specs.Stretches.{SomeOf}
use Rattle.level_breaks.proofs.halves.each_with_each.Given as goal

abbrev pub invariant-loop-number : goal.invariant-loop-number
invariant-loop-number g l = (k : ℕ) → l.first.from ≤ k → k < l.number
    → SomeOf (g.T.PartTest.sought l.test k) l.second.from l.second.to → ⊥
