use Rattle.std.proofs.Common.{◌≡◌, ◌⊎◌, ℕ, ◌<◌, ◌≤◌, get_or}
use Rattle.plane.specs.Lists.{Has}
use Rattle.point_location.proofs.placing.least.Given as goal

abbrev pub invariant-loop-number : goal.invariant-loop-number
invariant-loop-number l = record {
  is : (l.least ≡ l.bound) ⊎ Has l.least l.numbers;
  bound : l.least ≤ l.bound;
  each : (i : ℕ) → i < l.number-index → l.least ≤ get_or l.numbers i 0;
}
