-- The sides of curves, as seen from `from` to `to`, and the faces on them.
use Rattle.std.specs.Prelude.{◌≡◌, ℕ, ◌+◌, ◌*◌, Bool, true, false, not, List, slice_index}
use Rattle.plane.specs.declared.kinds.Curve.{Curve}
use Rattle.plane.specs.declared.kinds.Edge.{Edge}

-- the half-edge of an edge over it, or under it
abbrev pub half_over : Bool → ℕ → ℕ
half_over true i = 2 * i + 1
half_over false i = 2 * i

-- The half-edge on the named side of curve i: over the edge on the left, where the edge's low end
-- is `from`; else the other way round.
pub data IsOnSide (e : Edge) (c : Curve) (i : ℕ) (left : Bool) (h : ℕ) : Type 0 where
  forth : e.low ≡ c.from → h ≡ half_over left i → IsOnSide e c i left h
  back : e.low ≡ c.to → h ≡ half_over (not left) i → IsOnSide e c i left h

-- The half-edge bounds a face other than 0 without an owner.
pub record IsUnowned (faces owners : List ℕ) (h : ℕ) : Type 0 where
  pub inner : slice_index faces h ≡ 0 → ⊥
  pub none : slice_index owners (slice_index faces h) ≡ 0
