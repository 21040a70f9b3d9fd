use Rattle.std.proofs.Common.{◌≡◌, length}
use Rattle.straight_predicates.specs.EdgeLists.{AreBelow}
use Rattle.line_sweep.proofs.clashes.clashing.Given as goal

abbrev pub invariant-loop-event : goal.invariant-loop-event
invariant-loop-event l = record {
  known : AreBelow (length l.edges) l.sweep.live;
  size : length l.sweep.marks.marked.items ≡ length l.firm;
}
