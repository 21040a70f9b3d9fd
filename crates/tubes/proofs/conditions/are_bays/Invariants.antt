use Rattle.std.proofs.Common.{◌^◌, drop}
use Rattle.plane.specs.Rule.Turns.{AreNear}
use Rattle.plane.specs.Tubes.Bays.{AreBays, bays}
use Rattle.arc_predicates.specs.Circles.{half_arc}
use Rattle.tubes.proofs.conditions.are_bays.Given as goal

abbrev pub invariant-loop-i : goal.invariant-loop-i
invariant-loop-i l = record {
  rest : AreBays (half_arc l.circle) l.circle.s (bays l.inner l.outer)
      → AreBays (half_arc l.circle) l.before (bays (drop l.i l.inner) (drop l.i l.outer));
  all : AreBays (half_arc l.circle) l.before (bays (drop l.i l.inner) (drop l.i l.outer))
      → AreBays (half_arc l.circle) l.circle.s (bays l.inner l.outer);
  before : AreNear (2 ^ 28) l.circle.s l.before;
}
