-- Arrows, how often they pass under a place, triangles, and the tube between two chains.
use Rattle.std.specs.Prelude.{◌≡◌, ◌⊎◌, Bool, true, false, cond, List, [], ◌∷◌, ℤ, pos, negsuc}
use Rattle.std.specs.Prelude.{◌+ℤ◌, ◌*ℤ◌, ◌-ℤ◌, ◌<ℤ◌, ◌≤ℤ◌}
use Rattle.plane.specs.declared.kinds.Point.{Point}
use Rattle.plane.specs.Lists.{Each, Has}
use Rattle.plane.specs.Forms.Vectors.{Vector, Same, Between, point, Edge, side, sweep}
use Rattle.plane.specs.Faces.Cells.{is_positive}
pub use Rattle.plane.specs.Tubes.Bays.{Bay}

-- the arrow from p to q: an edge whose ends may stand in either order. What is left of it has a
-- side above 0
abbrev pub arrow : Point → Point → Edge
arrow p q = record { low = p; high = q }

-- the arrow the other way
abbrev pub back : Edge → Edge
back e = arrow e.high e.low

-- how far p comes after z on the sweep
unfoldable pub lead : ℤ → Point → Vector → ℤ
lead w p z = (sweep w (point p) *ℤ z.n) -ℤ sweep w z

-- from the tests "the start comes after z" and "the end comes after z", and the side of z
abbrev pub turned : Bool → Bool → ℤ → ℤ
turned false true s = cond (is_positive s) (pos 1) (pos 0)
turned true false s = cond (is_positive (pos 0 -ℤ s)) (negsuc 0) (pos 0)
turned true true s = pos 0
turned false false s = pos 0

-- 1: the arrow passes strictly under z with the sweep; -1: it does so against the sweep; 0: neither
unfoldable pub turning : ℤ → Vector → Edge → ℤ
turning w z e = turned (is_positive (lead w e.low z)) (is_positive (lead w e.high z)) (side e z)

abbrev pub total : {X : Type 0} → (X → ℤ) → List X → ℤ
total f [] = pos 0
total f (x ∷ xs) = f x +ℤ total f xs

-- a triangle of three points
pub record Tile : Type 0 where
  pub a : Point
  pub b : Point
  pub c : Point

-- The point is a corner of the triangle.
abbrev pub IsCornerOf : Tile → Point → Type 0
IsCornerOf t p = (p ≡ t.a) ⊎ ((p ≡ t.b) ⊎ (p ≡ t.c))

-- its arrows, in order
abbrev pub round : Tile → List Edge
round t = arrow t.a t.b ∷ arrow t.b t.c ∷ arrow t.c t.a ∷ []

-- the corners turn left
abbrev pub IsLeftTile : Tile → Type 0
IsLeftTile t = pos 0 <ℤ side (arrow t.a t.b) (point t.c)

-- no arrow of it lies along a sweep line
pub record IsSteep (w : ℤ) (t : Tile) : Type 0 where
  pub ab : sweep w (point t.a) ≡ sweep w (point t.b) → ⊥
  pub bc : sweep w (point t.b) ≡ sweep w (point t.c) → ⊥
  pub ca : sweep w (point t.c) ≡ sweep w (point t.a) → ⊥

-- the mean of three points with these weights
abbrev pub weighed : ℤ → Point → ℤ → Point → ℤ → Point → Vector
weighed r a s b t c = record {
  x = ((r *ℤ a.x) +ℤ (s *ℤ b.x)) +ℤ (t *ℤ c.x);
  y = ((r *ℤ a.y) +ℤ (s *ℤ b.y)) +ℤ (t *ℤ c.y);
  n = (r +ℤ s) +ℤ t;
}

-- the place is a mean of the corners
pub record InTile (t : Tile) (z : Vector) : Type 0 where
  pub of_a : ℤ
  pub of_b : ℤ
  pub of_c : ℤ
  pub a_least : pos 0 ≤ℤ of_a
  pub b_least : pos 0 ≤ℤ of_b
  pub c_least : pos 0 ≤ℤ of_c
  pub some : pos 0 <ℤ ((of_a +ℤ of_b) +ℤ of_c)
  pub is : Same z (weighed of_a t.a of_b t.b of_c t.c)

-- how often the triangle goes round z
abbrev pub winding : ℤ → Vector → Tile → ℤ
winding w z t =
    (turning w z (arrow t.a t.b) +ℤ turning w z (arrow t.b t.c)) +ℤ turning w z (arrow t.c t.a)

-- ---- a tube: from its first point on, in turn the next point of the outer chain and the next one
-- of the inner chain

-- the triangles from the diagonal between the inner point p and the outer point u on
abbrev pub strips : Point → Point → List Bay → List Tile
strips p u [] = []
strips p u (k ∷ ks) =
    record { a = u; b = p; c = k.outer } ∷ record { a = p; b = k.inner; c = k.outer }
    ∷ strips k.inner k.outer ks

-- the triangles of a tube, from its first point on
abbrev pub tiles : Point → List Bay → List Tile
tiles a [] = []
tiles a (k ∷ ks) = record { a = a; b = k.inner; c = k.outer } ∷ strips k.inner k.outer ks

-- the arrows round it: the inner chain onward, the outer chain backward, and from the last inner
-- point to the last outer one
abbrev pub fence : Point → Point → List Bay → List Edge
fence p u [] = arrow p u ∷ []
fence p u (k ∷ ks) = arrow p k.inner ∷ arrow k.outer u ∷ fence k.inner k.outer ks

abbrev pub bounds : Point → List Bay → List Edge
bounds a ks = fence a a ks

-- the place is in some triangle of the list
abbrev pub InSomeTile : List Tile → Vector → Type 0
InSomeTile ts z = (t : Tile) × Has t ts × InTile t z

-- all triangles are right for the weight
abbrev pub IsTiled : ℤ → List Tile → Type 0
IsTiled w ts = Each (λ t. IsLeftTile t × IsSteep w t) ts

-- the place is on no arrow of the list
abbrev pub IsClearOf : List Edge → Vector → Type 0
IsClearOf es z = (e : Edge) → Has e es → Between z (point e.low) (point e.high) → ⊥
