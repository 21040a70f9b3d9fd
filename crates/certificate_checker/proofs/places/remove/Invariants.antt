use Rattle.std.proofs.Common.{◌≡◌, ◌+◌, ◌-◌, ◌≤◌, ◌++◌, take, drop}
use Rattle.straight_predicates.specs.Chunks.{joined}
use Rattle.certificate_checker.proofs.places.remove.Given as goal

abbrev pub invariant-loop-left : goal.invariant-loop-left
invariant-loop-left l = record {
  least : l.left ≤ l.count;
  joined : joined l.blocks ≡ take l.from (joined l.fn.blocks)
      ++ drop (l.from + (l.count - l.left)) (joined l.fn.blocks);
}

abbrev pub decreases-loop-left : goal.decreases-loop-left
decreases-loop-left l = l.left
