-- Weights: with one of these the sweep goes through points in the order of x, then y.
use Rattle.std.specs.Prelude.{ℤ, List, ◌<ℤ◌}
use Rattle.plane.specs.declared.kinds.Point.{Point}
use Rattle.plane.specs.Lists.{Has}
use Rattle.plane.specs.Forms.Vectors.{point, sweep, Before}

-- w is a weight of the points where each point that comes before another, by x and then y, has the
-- smaller sweep value.
abbrev pub Weight : ℤ → List Point → Type 0
Weight w pts =
    (a b : Point) → Has a pts → Has b pts → Before a b → sweep w (point a) <ℤ sweep w (point b)
