use Rattle.std.proofs.Common.{◌≡◌, ◌⊎◌, ℕ, ◌-◌, ◌^◌, ◌<◌, ◌≤◌, take, drop, get_or}
use Rattle.plane.specs.Lists.{Has}
use Rattle.point_location.proofs.placing.least_between.Given as goal

abbrev pub invariant-loop-place : goal.invariant-loop-place
invariant-loop-place l = record {
  is : (l.least ≡ 2 ^ 32 - 1) ⊎ Has l.least (take (l.upto - l.from) (drop l.from l.live));
  each : (i : ℕ) → i < l.place - l.from
      → l.least ≤ get_or (take (l.upto - l.from) (drop l.from l.live)) i 0;
}
