use Rattle.std.proofs.Common.{◌≡◌, ◌≤◌, ◌++◌, length, take, drop}
use Rattle.straight_predicates.specs.Chunks.{joined}
use Rattle.straight_predicates.proofs.chunks.insert.Given as goal

abbrev pub invariant-loop-left : goal.invariant-loop-left
invariant-loop-left g l = record {
  least : l.left ≤ length l.with;
  joined : joined l.chunks.items ≡ take l.place (joined l.fn.chunks.items)
      ++ (drop l.left l.with ++ drop l.place (joined l.fn.chunks.items));
}

abbrev pub decreases-loop-left : goal.decreases-loop-left
decreases-loop-left g l = l.left
