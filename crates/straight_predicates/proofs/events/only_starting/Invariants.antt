use Rattle.std.proofs.Common.{◌≡◌, take}
use Rattle.straight_predicates.specs.Tables.{starting_of}
use Rattle.straight_predicates.proofs.Groups.{found_as}
use Rattle.straight_predicates.proofs.events.only_starting.Given as goal

abbrev pub invariant-loop-end : goal.invariant-loop-end
invariant-loop-end l = starting_of (take l.end-index l.group) ≡ found_as l.found
