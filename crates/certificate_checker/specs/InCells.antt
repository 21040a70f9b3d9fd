-- Points in the cells of the live list.
use Rattle.std.specs.Prelude.{◌≡◌, ℕ, suc, ◌-◌, ◌<◌, pos, ◌<ℤ◌, Option, Some, None, List, length}
use Rattle.std.specs.Prelude.{get_or}
use Rattle.plane.specs.declared.kinds.Edge.{Edge}
use Rattle.certificate.specs.declared.notes.HalfNote.{HalfNote}
use Rattle.plane.specs.declared.kinds.Point.{Point}
use Rattle.plane.specs.Faces.Halves.{over, under}
use Rattle.plane.specs.Forms.Vectors.{Before}
use Rattle.plane.specs.Runs.Positions.{turn_at}
use Rattle.certificate_checker.specs.declared.state.Spot.{Spot}
use Rattle.certificate_checker.specs.Placed.{IsPointOf}
use Rattle.certificate_checker.specs.Rules.{IsInOwnCell}
use Rattle.certificate_checker.specs.Subjects.{Subject, edge, event, index_of, note_in, point_at}

-- the point is strictly above the one edge and strictly below the other
pub record IsOverUnder (E : ℕ → Edge) (d e : ℕ) (p : Point) : Type 0 where
  pub above : pos 0 <ℤ turn_at E d p
  pub below : turn_at E e p <ℤ pos 0

-- both labels between the one edge and the other over it are this one
pub record AreBothLabels (notes : List HalfNote) (d e label : ℕ) : Type 0 where
  pub lower : (note_in notes (over d)).label ≡ label
  pub upper : (note_in notes (under e)).label ≡ label

-- Point j lies strictly between the edges of the live list on both sides of place i, and the labels
-- between them are its own.
pub record IsBetweenEdges (s : Subject) (live : List ℕ) (j i : ℕ) : Type 0 where
  pub some : 0 < i
  pub within : i < length live
  pub sides : IsOverUnder (edge s) (get_or live (i - 1) 0) (get_or live i 0) (point_at s j)
  pub labels : AreBothLabels s.claims.notes (get_or live (i - 1) 0) (get_or live i 0) (suc j)

-- exactly the first k events come before the point, but that it may be the next one
pub record IsInStrip (s : Subject) (k : ℕ) (p : Point) : Type 0 where
  pub passed : (j : ℕ) → j < k → Before (event s j).at p
  pub next : k < length s.table → Before (event s k).at p → ⊥

-- the spot is a point with its number, in the strip after the first k events
pub record IsSpotOf (s : Subject) (k : ℕ) (spot : Spot) : Type 0 where
  pub point : IsPointOf s.points spot
  pub strip : IsInStrip s k (point_at s spot.number)

-- the point of the event after the first k, if there is one
abbrev pub IsNextEvent : Subject → ℕ → Option Point → Type 0
IsNextEvent s k None = k ≡ length s.table
IsNextEvent s k (Some p) = (k < length s.table) × (p ≡ (event s k).at)

-- the answer is the place of a point in its cell, or it is in no cell where it is placed
abbrev pub IsCellOf : Subject → ℕ → List ℕ → Option ℕ → Type 0
IsCellOf s j live None = IsInOwnCell s j → ⊥
IsCellOf s j live (Some i) = IsInOwnCell s j × (i ≡ index_of s j) × (0 < i) × (i < length live)
