use Rattle.std.proofs.Common.{◌≡◌, length}
use Rattle.certificate_checker.specs.Cases.{judged}
use Rattle.certificate_checker.specs.Placed.{ArePlacedTo}
use Rattle.certificate_checker.proofs.points.place_points.Given as goal

abbrev pub invariant-loop-i : goal.invariant-loop-i
invariant-loop-i l = record {
  next : l.placing.next ≡ l.i;
  size : length l.placing.spots.items ≡ l.size;
  placed : ArePlacedTo (judged l.case) l.event l.placing.next l.placing.bad l.placing.spots.items
      l.marks;
}
