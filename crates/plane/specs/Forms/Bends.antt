-- Straights bent beside an end, and the places that lie close to a straight.
use Rattle.std.specs.Prelude.{Bool, true, false, ℤ, pos, ◌+ℤ◌, ◌*ℤ◌, ◌-ℤ◌, ◌<ℤ◌, ◌≤ℤ◌}
use Rattle.plane.specs.declared.kinds.Point.{Point}
use Rattle.plane.specs.Rule.Places.{Vector, Place, point}
use Rattle.plane.specs.Rule.Straights.{IsOnStraight}
use Rattle.plane.specs.Rule.HalfArcs.{HalfArc}

-- The square of the distance of two points.
abbrev pub square : Point → Point → ℤ
square p q = ((q.x -ℤ p.x) *ℤ (q.x -ℤ p.x)) +ℤ ((q.y -ℤ p.y) *ℤ (q.y -ℤ p.y))

-- The way from p to q turned by a quarter, to the left or to the right.
abbrev pub aside_x : Bool → Point → Point → ℤ
aside_x true p q = pos 0 -ℤ (q.y -ℤ p.y)
aside_x false p q = q.y -ℤ p.y

-- the y of that way
abbrev pub aside_y : Bool → Point → Point → ℤ
aside_y true p q = q.x -ℤ p.x
aside_y false p q = pos 0 -ℤ (q.x -ℤ p.x)

-- b is n / h rounded down to a whole number.
pub record IsRoundedDown (h n b : ℤ) : Type 0 where
  pub most : (h *ℤ b) ≤ℤ n
  pub least : n <ℤ ((h *ℤ b) +ℤ h)

-- b is the bend of the straight from p to q beside p, by at most d: with v the way from p to q, u
-- this way turned by a quarter and h the whole root of its length, b is p + (8 d v + (d - 2) u) /
-- h, each coordinate rounded down. The straight is long for d.
pub record IsBend (d : ℤ) (left : Bool) (p q b : Point) : Type 0 where
  pub root : ℤ
  pub root_most : (root *ℤ root) ≤ℤ square p q
  pub root_least : square p q <ℤ ((root +ℤ pos 1) *ℤ (root +ℤ pos 1))
  pub wide : pos 8 ≤ℤ d
  pub long : (pos 32 *ℤ d) ≤ℤ root
  pub x : IsRoundedDown root (((pos 8 *ℤ d) *ℤ (q.x -ℤ p.x)) +ℤ ((d -ℤ pos 2) *ℤ aside_x left p q))
      (b.x -ℤ p.x)
  pub y : IsRoundedDown root (((pos 8 *ℤ d) *ℤ (q.y -ℤ p.y)) +ℤ ((d -ℤ pos 2) *ℤ aside_y left p q))
      (b.y -ℤ p.y)

-- How far z lies along the way from p to q, and how far on its left: each times the way's length
-- and n.
abbrev pub ahead : Point → Point → Vector → ℤ
ahead p q z = ((q.x -ℤ p.x) *ℤ (z.x -ℤ (p.x *ℤ z.n))) +ℤ ((q.y -ℤ p.y) *ℤ (z.y -ℤ (p.y *ℤ z.n)))

abbrev pub off : Point → Point → Vector → ℤ
off p q z = ((q.x -ℤ p.x) *ℤ (z.y -ℤ (p.y *ℤ z.n))) -ℤ ((q.y -ℤ p.y) *ℤ (z.x -ℤ (p.x *ℤ z.n)))

-- z stands beside the straight from p to q: straight from one of its places, at most d away.
pub record IsBeside (d : ℤ) (p q : Point) (z : Vector) : Type 0 where
  pub begun : pos 0 ≤ℤ ahead p q z
  pub ended : ahead p q z ≤ℤ (square p q *ℤ z.n)
  pub near : (off p q z *ℤ off p q z) ≤ℤ (((d *ℤ d) *ℤ square p q) *ℤ (z.n *ℤ z.n))

-- Some place of the straight from p to q is at most d away from z.
pub record IsClose (d : ℤ) (p q : Point) (z : Vector) : Type 0 where
  pub foot : Vector
  pub place : Place foot
  pub of_straight : IsOnStraight (point p) (point q) foot
  pub near :
      ((((z.x *ℤ foot.n) -ℤ (foot.x *ℤ z.n)) *ℤ ((z.x *ℤ foot.n) -ℤ (foot.x *ℤ z.n)))
      +ℤ (((z.y *ℤ foot.n) -ℤ (foot.y *ℤ z.n)) *ℤ ((z.y *ℤ foot.n) -ℤ (foot.y *ℤ z.n)))) ≤ℤ
      ((d *ℤ (z.n *ℤ foot.n)) *ℤ (d *ℤ (z.n *ℤ foot.n)))

-- The half arc from its other end.
abbrev pub from_other_end : HalfArc → HalfArc
from_other_end h = record { from = h.to; to = h.from; third = h.third }
