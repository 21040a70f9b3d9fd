use Rattle.std.proofs.Common.{◌≡◌, length, take}
use Rattle.straight_predicates.specs.Chunks.{joined}
use Rattle.straight_predicates.proofs.chunks.start.Given as goal

abbrev pub invariant-loop-i : goal.invariant-loop-i
invariant-loop-i g l = l.place ≡ length (joined (take l.i l.chunks))
