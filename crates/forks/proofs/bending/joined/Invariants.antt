use Rattle.std.proofs.Common.{◌≤◌, length}
use Rattle.plane.specs.Rule.Plans.{plan}
use Rattle.forks.specs.ForkedStraights.{ArePieces, IsNextAt}
use Rattle.forks.proofs.bending.joined.Given as goal

abbrev pub invariant-loop-number : goal.invariant-loop-number
invariant-loop-number l = record {
  pieces : ArePieces l.drawing.tolerance
      (plan l.drawing) l.number l.pieces.curves.items l.pieces.origin.items;
  fits : l.number ≤ length l.drawing.curves.items;
  next : IsNextAt l.number l.forked.straights.items l.next;
}
