-- Half arcs: their circle, the places on them, and the places from which they can be judged.
use Rattle.std.specs.Prelude.{◌≡◌, ◌^◌, ℤ, pos, ◌+ℤ◌, ◌*ℤ◌, ◌-ℤ◌, ◌<ℤ◌, ◌≤ℤ◌}
use Rattle.plane.specs.Rule.Turns.{AreNear}
use Rattle.plane.specs.Rule.Places.{Vector, Place}
use Rattle.plane.specs.Rule.Straights.{IsOnStraight}
use Rattle.plane.specs.declared.kinds.Point.{Point}

-- The part of the circle through three points that runs between the first two and does not hold the
-- third.
pub record HalfArc : Type 0 where
  pub from : Point
  pub to : Point
  pub third : Point

-- The x of the other end, seen from `from`.
abbrev pub wide : HalfArc → ℤ
wide h = h.to.x -ℤ h.from.x

-- The y of the other end, seen from `from`.
abbrev pub tall : HalfArc → ℤ
tall h = h.to.y -ℤ h.from.y

-- The x of the third point, seen from `from`.
abbrev pub third_x : HalfArc → ℤ
third_x h = h.third.x -ℤ h.from.x

-- The y of the third point, seen from `from`.
abbrev pub third_y : HalfArc → ℤ
third_y h = h.third.y -ℤ h.from.y

-- The x of v seen from `from`, times n.
abbrev pub off_x : HalfArc → Vector → ℤ
off_x h v = v.x -ℤ (h.from.x *ℤ v.n)

-- The y of v seen from `from`, times n.
abbrev pub off_y : HalfArc → Vector → ℤ
off_y h v = v.y -ℤ (h.from.y *ℤ v.n)

-- D of the circle: seen from `from`, its centre is (A / 2 D, B / 2 D) with A and B as below. D is 0
-- where the three points are collinear.
unfoldable pub bend : HalfArc → ℤ
bend h = (wide h *ℤ third_y h) -ℤ (tall h *ℤ third_x h)

-- A of the circle.
unfoldable pub circle_x : HalfArc → ℤ
circle_x h =
    (((wide h *ℤ wide h) +ℤ (tall h *ℤ tall h)) *ℤ third_y h)
    -ℤ (((third_x h *ℤ third_x h) +ℤ (third_y h *ℤ third_y h)) *ℤ tall h)

-- B of the circle.
unfoldable pub circle_y : HalfArc → ℤ
circle_y h =
    (wide h *ℤ ((third_x h *ℤ third_x h) +ℤ (third_y h *ℤ third_y h)))
    -ℤ (third_x h *ℤ ((wide h *ℤ wide h) +ℤ (tall h *ℤ tall h)))

-- Where v lies to the circle: below 0 strictly inside, 0 on it, above 0 strictly outside. It is D
-- (D (x x + y y) - A x - B y), with x and y seen from `from`, times n n.
unfoldable pub power : HalfArc → Vector → ℤ
power h v =
    bend h
    *ℤ ((bend h *ℤ ((off_x h v *ℤ off_x h v) +ℤ (off_y h v *ℤ off_y h v)))
    -ℤ (((circle_x h *ℤ off_x h v) +ℤ (circle_y h *ℤ off_y h v)) *ℤ v.n))

-- Where v lies to the chord: 0 on its line, above 0 on the side away from the third point, below 0
-- on the third point's side.
unfoldable pub bow : HalfArc → Vector → ℤ
bow h v = pos 0 -ℤ (bend h *ℤ ((wide h *ℤ off_y h v) -ℤ (tall h *ℤ off_x h v)))

-- A place is on the half arc where it is on the circle and not on the third point's side of the
-- chord.
pub record IsOnHalfArc (h : HalfArc) (z : Vector) : Type 0 where
  pub circle : power h z ≡ pos 0
  pub away : pos 0 ≤ℤ bow h z

-- The segment from p to q hits the half arc where two of its places are not on the third point's
-- side of the chord, one of them not outside the circle and the other not inside. The circle and
-- the segment then have a common point between the two, which may be irrational.
pub record HitsHalfArc (h : HalfArc) (p q : Vector) : Type 0 where
  pub u : Vector
  pub v : Vector
  pub u_place : Place u
  pub v_place : Place v
  pub u_of_segment : IsOnStraight p q u
  pub v_of_segment : IsOnStraight p q v
  pub u_away : pos 0 ≤ℤ bow h u
  pub v_away : pos 0 ≤ℤ bow h v
  pub u_not_outside : power h u ≤ℤ pos 0
  pub v_not_inside : pos 0 ≤ℤ power h v

-- The circle can be judged: its three points are not collinear, and every two of them differ by
-- less than 2 ^ 26 in each coordinate.
pub record HasCircle (h : HalfArc) : Type 0 where
  pub bent : bend h ≡ pos 0 → ⊥
  pub ends : AreNear (2 ^ 26) h.from h.to
  pub first : AreNear (2 ^ 26) h.from h.third
  pub second : AreNear (2 ^ 26) h.to h.third

-- A place has a side for a half arc where the circle can be judged and the place differs from the
-- half arc's `from` by less than 2 ^ 28 in each coordinate.
pub record HasSide (h : HalfArc) (z : Vector) : Type 0 where
  pub circle : HasCircle h
  pub right : off_x h z <ℤ (pos (2 ^ 28) *ℤ z.n)
  pub left : (pos 0 -ℤ off_x h z) <ℤ (pos (2 ^ 28) *ℤ z.n)
  pub above : off_y h z <ℤ (pos (2 ^ 28) *ℤ z.n)
  pub below : (pos 0 -ℤ off_y h z) <ℤ (pos (2 ^ 28) *ℤ z.n)
