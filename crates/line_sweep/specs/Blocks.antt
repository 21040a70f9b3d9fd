-- The edges of a live list at an event.
use Rattle.std.specs.Prelude.{◌≡◌, ℕ, suc, ◌+◌, ◌<◌, ◌≤◌, pos, ◌<ℤ◌, ◌≤ℤ◌, List, length, Option}
use Rattle.std.specs.Prelude.{slice_index_or}
use Rattle.plane.specs.declared.kinds.Point.{Point}
use Rattle.plane.specs.declared.kinds.Edge.{Edge}
use Rattle.plane.specs.Runs.Gaps.{edge_at, edge_before}
use Rattle.plane.specs.Runs.Positions.{turn_at}

-- The edges at the places from `from` up to `upto` end at the point.
abbrev pub AreEnding : (ℕ → Edge) → List ℕ → Point → ℕ → ℕ → Type 0
AreEnding E live at from upto =
    (i : ℕ) → from ≤ i → i < upto → (E (slice_index_or live i 0)).high ≡ at

-- After p edges the next n end at the point. The point is strictly above the edge before them, not
-- above the first of them, and not on the line of the edge after them.
pub record IsBlock (E : ℕ → Edge) (live : List ℕ) (at : Point) (p n : ℕ) : Type 0 where
  pub within : p + n ≤ length live
  pub below : (i : ℕ) → p ≡ suc i → pos 0 <ℤ turn_at E (slice_index_or live i 0) at
  pub first : p < length live → turn_at E (slice_index_or live p 0) at ≤ℤ pos 0
  pub ends : AreEnding E live at p (p + n)
  pub next : p + n < length live → turn_at E (slice_index_or live (p + n) 0) at ≡ pos 0 → ⊥

-- A live edge whose line goes through the point, and which does not end there.
pub record IsThrough (E : ℕ → Edge) (live : List ℕ) (at : Point) (e : ℕ) : Type 0 where
  pub place : ℕ
  pub within : place < length live
  pub is : e ≡ slice_index_or live place 0
  pub line : turn_at E e at ≡ pos 0
  pub no_end : (E e).high ≡ at → ⊥

-- The edge just below the n edges from place p on, and the edge just above them.
pub record AreBeside (live : List ℕ) (p n : ℕ) (l u : Option ℕ) : Type 0 where
  pub lower : l ≡ edge_before live p
  pub upper : u ≡ edge_at live (p + n)
