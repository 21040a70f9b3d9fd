-- Triangles, covers of curves by triangles, and curves that are apart.
use Rattle.std.specs.Prelude.{ℤ, pos, ◌+ℤ◌, ◌*ℤ◌, ◌<ℤ◌, ◌≤ℤ◌, List}
use Rattle.plane.specs.Lists.{Has}
use Rattle.plane.specs.Rule.Places.{Vector, Place, Same}
use Rattle.plane.specs.Rule.Straights.{IsOnStraight}
use Rattle.plane.specs.Rule.Curves.{Hits, IsOn, IsControl}
use Rattle.plane.specs.declared.kinds.Curve.{Curve}

-- i p + j q + k r
abbrev pub mean : ℤ → Vector → ℤ → Vector → ℤ → Vector → Vector
mean i p j q k r = record {
  x = ((i *ℤ p.x) +ℤ (j *ℤ q.x)) +ℤ (k *ℤ r.x);
  y = ((i *ℤ p.y) +ℤ (j *ℤ q.y)) +ℤ (k *ℤ r.y);
  n = ((i *ℤ p.n) +ℤ (j *ℤ q.n)) +ℤ (k *ℤ r.n);
}

-- A place is in the triangle of three places where it is a mean of them with whole weights of at
-- least 0 that are not all 0.
pub record InTriangle (z p q r : Vector) : Type 0 where
  pub i : ℤ
  pub j : ℤ
  pub k : ℤ
  pub i_least : pos 0 ≤ℤ i
  pub j_least : pos 0 ≤ℤ j
  pub k_least : pos 0 ≤ℤ k
  pub some : pos 0 <ℤ ((i +ℤ j) +ℤ k)
  pub is : Same z (mean i p j q k r)

-- Three places, which may coincide or lie on one line.
pub record Triangle : Type 0 where
  pub a : Vector
  pub b : Vector
  pub c : Vector
  pub a_place : Place a
  pub b_place : Place b
  pub c_place : Place c

-- The place is in one of the triangles.
abbrev pub InSome : List Triangle → Vector → Type 0
InSome ts z = (t : Triangle) × Has t ts × InTriangle z t.a t.b t.c

-- A list of triangles covers a curve where every segment that hits the curve has a place in one of
-- the triangles.
abbrev pub Covers : List Triangle → Curve → Type 0
Covers ts c =
    (p q : Vector) → Place p → Place q → Hits c p q
    → (z : Vector) × Place z × IsOnStraight p q z × InSome ts z

-- Two curves are apart where lists of triangles cover the one and the other, so that each place in
-- a triangle of both lists is a control point of both curves.
pub record Apart (c d : Curve) : Type 0 where
  pub first : List Triangle
  pub second : List Triangle
  pub first_covers : Covers first c
  pub second_covers : Covers second d
  pub apart : (z : Vector) → Place z → InSome first z → InSome second z
      → IsControl c z × IsControl d z

-- Each common place of the two curves is a control point of both.
abbrev pub ShareControls : Curve → Curve → Type 0
ShareControls c d = (z : Vector) → Place z → IsOn c z → IsOn d z → IsControl c z × IsControl d z
