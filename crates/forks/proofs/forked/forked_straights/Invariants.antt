use Rattle.std.proofs.Common.{◌≤◌, length}
use Rattle.plane.specs.Rule.Plans.{plan}
use Rattle.forks.specs.ForkedStraights.{AreForkedTo}
use Rattle.forks.proofs.forked.forked_straights.Given as goal

abbrev pub invariant-loop-number : goal.invariant-loop-number
invariant-loop-number l = record {
  forked : AreForkedTo l.drawing.tolerance (plan l.drawing) l.number l.forked;
  fits : l.number ≤ length l.drawing.curves.items;
}
