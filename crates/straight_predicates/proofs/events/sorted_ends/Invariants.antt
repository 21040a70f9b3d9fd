use Rattle.std.proofs.Common.{◌≡◌, take}
use Rattle.straight_predicates.specs.PackedEnds.{ends_in}
use Rattle.straight_predicates.specs.Tables.{all_ends}
use Rattle.straight_predicates.proofs.events.sorted_ends.Given as goal

abbrev pub invariant-loop-i : goal.invariant-loop-i
invariant-loop-i l = record {
  origin : l.ends.origin ≡ l.initial.ends.origin;
  ends : ends_in l.ends ≡ all_ends 0 (take l.i l.edges);
}
