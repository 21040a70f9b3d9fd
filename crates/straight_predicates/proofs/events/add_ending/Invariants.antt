use Rattle.std.proofs.Common.{◌≡◌, ◌++◌, take}
use Rattle.straight_predicates.specs.Tables.{ending_of}
use Rattle.straight_predicates.proofs.events.add_ending.Given as goal

abbrev pub invariant-loop-end : goal.invariant-loop-end
invariant-loop-end l =
    l.numbers.items ≡ l.fn.numbers.items ++ ending_of (take l.end-index l.group)
