use Rattle.std.proofs.Common.{◌≡◌, ℕ, ◌<◌, ◌&&◌, ◌==◌, false, length, take, get_or}
use Rattle.std.specs.List.{list_any}
use Rattle.std.specs.Option.{is_some}
use Rattle.resolver.specs.Aliases.{step_in}
use Rattle.resolver.proofs.scope.aliases.cyclic.Given as goal

abbrev pub invariant-loop-target : goal.invariant-loop-target
invariant-loop-target l = record {
  long : length l.marks.items ≡ length l.steps;
  marked : (i : ℕ) → i < length l.steps
      → get_or l.marks.items i false
      ≡ (list_any (λ e. e == i) (take l.target-index l.targets) && is_some (step_in l.steps i));
}
