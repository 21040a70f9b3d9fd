use Rattle.std.proofs.Common.{arith}
use Rattle.std.proofs.lemmas.Int.{ints}
use Rattle.plane.proofs.drawing.Drawing.new.Goals as goal

pub invariant_of-result-clause-permitted : goal.invariant_of-result-clause-permitted
invariant_of-result-clause-permitted c =
    record { least = omega (arith, ints); most = omega (arith, ints) }
