use Rattle.std.proofs.Common.{◌≡◌, take}
use Rattle.area_search.specs.Settled.Writing.{positions_of}
use Rattle.area_search.proofs.settled.writing.positions.Given as goal

abbrev pub invariant-loop-number : goal.invariant-loop-number
invariant-loop-number l = l.positions.items ≡ positions_of (take l.number l.events)
