-- Two bends worked out: a straight that leaves the circle round (500000, 500000) of the radius
-- 10000 beside its tangent, and one on it.
use Rattle.std.proofs.Common.{false, pos, arith}
use Rattle.std.proofs.lemmas.Int.{ints}
use Rattle.plane.specs.declared.kinds.Point.{Point}
use Rattle.plane.specs.Forms.Bends.{IsBend}

abbrev start : Point
start = record { x = pos 510000; y = pos 500000 }

slanted : IsBend (pos 50) false start (record { x = pos 509900; y = pos 520000 })
    (record { x = pos 510046; y = pos 500400 })
slanted = record {
  root = pos 20000;
  root_most = omega (arith, ints);
  root_least = omega (arith, ints);
  wide = omega (arith, ints);
  long = omega (arith, ints);
  x = record { most = omega (arith, ints); least = omega (arith, ints) };
  y = record { most = omega (arith, ints); least = omega (arith, ints) };
}

tangent : IsBend (pos 50) false start (record { x = pos 510000; y = pos 520000 })
    (record { x = pos 510048; y = pos 500400 })
tangent = record {
  root = pos 20000;
  root_most = omega (arith, ints);
  root_least = omega (arith, ints);
  wide = omega (arith, ints);
  long = omega (arith, ints);
  x = record { most = omega (arith, ints); least = omega (arith, ints) };
  y = record { most = omega (arith, ints); least = omega (arith, ints) };
}
