use Rattle.std.proofs.Common.{◌≡◌, ◌++◌, replicate, take}
use Rattle.forks.proofs.bending.Pieces.add.Given as goal

abbrev pub invariant-loop-curve : goal.invariant-loop-curve
invariant-loop-curve l = record {
  curves : l.self.curves.items ≡ l.fn.self.curves.items ++ take l.curve-index l.piece;
  origin : l.self.origin.items ≡ l.fn.self.origin.items ++ replicate l.curve-index l.number;
}
