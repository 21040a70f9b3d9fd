use Rattle.std.proofs.Common.{pos, arith}
use Rattle.std.specs.Int.{w128}
use Rattle.std.proofs.lemmas.Int.{ints}
use borrow.Author.Differences.{fits_in}
use Rattle.resolver.proofs.numbers.in_units.Goals as goal

pub overflow_cast-value : goal.overflow_cast-value
overflow_cast-value c =
    let m = c.magnitude-value.ensures.most in
    fits_in w128 (pos c.magnitude-value.result) (omega (arith, ints, m))
