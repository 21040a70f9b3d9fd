use Rattle.std.proofs.Common.{◌≡◌, ℕ, ◌<◌, length, get_or}
use Rattle.std.specs.Option.{unwrap_or}
use Rattle.resolver.specs.Aliases.{step_in}
use Rattle.resolver.proofs.scope.aliases.one_step.Given as goal

abbrev pub invariant-loop-place : goal.invariant-loop-place
invariant-loop-place l =
    (length l.jumps.items ≡ l.place) × ((i : ℕ) → i < l.place
    → get_or l.jumps.items i 0 ≡ unwrap_or (step_in l.steps i) i)
