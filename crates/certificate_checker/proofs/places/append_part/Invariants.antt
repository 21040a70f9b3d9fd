use Rattle.std.proofs.Common.{◌≡◌, ◌+◌, ◌-◌, ◌≤◌, ◌++◌, length, take, drop, vec_capacity}
use Rattle.straight_predicates.specs.Chunks.{joined}
use Rattle.certificate_checker.proofs.places.append_part.Given as goal

abbrev pub invariant-loop-done : goal.invariant-loop-done
invariant-loop-done l = record {
  within : l.done ≤ l.count;
  items : l.into.items ≡ l.fn.into.items ++ take l.done (drop l.from (joined l.blocks));
  size : length l.into.items ≡ length l.fn.into.items + l.done;
  capacity : vec_capacity l.into ≡ vec_capacity l.fn.into;
}

abbrev pub decreases-loop-done : goal.decreases-loop-done
decreases-loop-done l = l.count - l.done
