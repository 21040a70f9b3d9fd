use Rattle.std.proofs.Common.{◌-◌, ◌≤◌, drop}
use Rattle.plane.specs.Lists.{Neighbours}
use Rattle.plane.specs.Tubes.Bays.{AreNext, bays}
use Rattle.arc_predicates.specs.Circles.{half_arc}
use Rattle.tubes.proofs.conditions.are_next.Given as goal

abbrev pub invariant-loop-i : goal.invariant-loop-i
invariant-loop-i l = record {
  rest : Neighbours (AreNext (half_arc l.circle)) (bays l.inner l.outer)
      → Neighbours (AreNext (half_arc l.circle))
      (bays (drop (l.i - 1) l.inner) (drop (l.i - 1) l.outer));
  all : Neighbours (AreNext (half_arc l.circle))
      (bays (drop (l.i - 1) l.inner) (drop (l.i - 1) l.outer))
      → Neighbours (AreNext (half_arc l.circle)) (bays l.inner l.outer);
  first : 1 ≤ l.i;
}
