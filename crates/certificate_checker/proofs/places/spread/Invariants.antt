use Rattle.std.proofs.Common.{◌≡◌, ◌*◌, length, min, take}
use Rattle.straight_predicates.specs.Chunks.{joined}
use Rattle.certificate_checker.proofs.places.spread.Given as goal

abbrev pub invariant-loop-i : goal.invariant-loop-i
invariant-loop-i l = record {
  from : l.from ≡ min (length l.edges) (512 * l.i);
  joined : joined (take l.i l.blocks) ≡ take l.from l.edges;
}
