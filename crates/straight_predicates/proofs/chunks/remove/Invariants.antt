use Rattle.std.proofs.Common.{◌≡◌, ◌+◌, ◌-◌, ◌≤◌, ◌++◌, take, drop}
use Rattle.straight_predicates.specs.Chunks.{joined}
use Rattle.straight_predicates.proofs.chunks.remove.Given as goal

abbrev pub invariant-loop-left : goal.invariant-loop-left
invariant-loop-left g l = record {
  least : l.left ≤ l.count;
  joined : joined l.chunks.items ≡ take l.from (joined l.fn.chunks.items)
      ++ drop (l.from + (l.count - l.left)) (joined l.fn.chunks.items);
}

abbrev pub decreases-loop-left : goal.decreases-loop-left
decreases-loop-left g l = l.left
