use Rattle.std.proofs.Common.{◌≡◌, ◌-◌, length}
use Rattle.straight_predicates.specs.PackedEnds.{ends_in}
use Rattle.straight_predicates.specs.Slots.{end_of_stops, slots_of}
use Rattle.straight_predicates.specs.Tables.{IsFilledTo}
use Rattle.straight_predicates.proofs.events.fill.Given as goal

abbrev pub invariant-loop-i : goal.invariant-loop-i
invariant-loop-i l = record {
  filled : IsFilledTo l.edges (ends_in l.ends) l.i (slots_of l.stops.items) l.numbers.items;
  last : end_of_stops l.stops.items ≡ length l.numbers.items;
}

abbrev pub decreases-loop-i : goal.decreases-loop-i
decreases-loop-i l = length (ends_in l.ends) - l.i
