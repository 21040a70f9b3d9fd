use Rattle.std.proofs.Common.{◌≡◌, ℕ, ◌<◌, length, get_or}
use Rattle.resolver.proofs.scope.aliases.jump_twice.Given as goal

abbrev pub invariant-loop-jump : goal.invariant-loop-jump
invariant-loop-jump l =
    (length l.far.items ≡ l.jump-index)
    × ((i : ℕ) → i < l.jump-index → get_or l.far.items i 0 ≡ get_or l.jumps (get_or l.jumps i 0) 0)
