-- Hits of a half arc by means of the ends of a segment: a word of the lemmas on half arcs.
use Rattle.std.specs.Prelude.{pos, ◌≤ℤ◌}
use Rattle.plane.specs.Forms.Vectors.{Vector, Place, Between}
use Rattle.plane.specs.Rule.HalfArcs.{HalfArc}
use Rattle.plane.specs.Rule.HalfArcs.{power, bow}

-- the segment from p to q hits the half arc: u is not outside and v not inside, both on the arc's
-- side of the chord
pub record HitsArc (h : HalfArc) (p q : Vector) : Type 0 where
  pub u : Vector
  pub v : Vector
  pub u_place : Place u
  pub v_place : Place v
  pub u_between : Between u p q
  pub v_between : Between v p q
  pub u_away : pos 0 ≤ℤ bow h u
  pub v_away : pos 0 ≤ℤ bow h v
  pub u_in : power h u ≤ℤ pos 0
  pub v_out : pos 0 ≤ℤ power h v
