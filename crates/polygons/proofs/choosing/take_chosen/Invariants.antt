use Rattle.std.proofs.Common.{◌≡◌, length}
use Rattle.polygons.specs.Outlines.{AreTaken, outlines}
use Rattle.polygons.proofs.TakenPolygons.{AreLeft}
use Rattle.polygons.proofs.choosing.take_chosen.Given as goal

abbrev pub invariant-loop-number : goal.invariant-loop-number
invariant-loop-number l = record {
  count : length l.all ≡ length l.fn.all;
  left : AreLeft l.fn.all l.all l.chosen l.number;
  taken : AreTaken (outlines l.fn.all) l.chosen l.number (outlines l.taken.items);
}
