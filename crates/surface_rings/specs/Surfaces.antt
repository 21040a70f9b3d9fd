-- When edges are rings around one connected region.
use Rattle.std.specs.Prelude.{◌≡◌, ◌⊎◌, ℕ, ◌<◌, true, List, length}
use Rattle.plane.specs.declared.kinds.Point.{Point}
use Rattle.plane.specs.declared.kinds.Edge.{Edge}
use Rattle.plane.specs.declared.window.Window2.{Window2}
use Rattle.plane.specs.Forms.Meets.{Bad, IsEnd}
use Rattle.plane.specs.Forms.Vectors.{Vector, Place}
use Rattle.plane.specs.Rule.CrossedCurves.{CrossesCurve}
use Rattle.plane.specs.Rule.Plans.{Plan}
use Rattle.plane.specs.Rule.Partition.{IsOff, Joined}
use Rattle.plane.specs.Faces.EdgeDrawings.{as_straights}
use Rattle.plane.specs.Faces.Parity.{EvenEnds, crosses_vertical, ends_of, parity, same_point}
use Rattle.straight_predicates.specs.EdgeLists.{edge_of}
use Rattle.surface_rings.specs.declared.kinds.RingAnswer.{RingAnswer}
use Rattle.surface_rings.specs.declared.kinds.RingAnswer.TheVariants as answer

-- The drawing of the edges as straights. No definition reads its window.
abbrev pub drawing_of : Window2 → List Edge → Plan
drawing_of u edges = as_straights u (edge_of edges) (length edges)

-- The place is on no edge, and an odd number of edges are straight over it: low.x <= x < high.x,
-- and the place strictly below.
pub record IsInside (u : Window2) (edges : List Edge) (z : Vector) : Type 0 where
  pub place : Place z
  pub off : IsOff (drawing_of u edges) z
  pub odd : parity (crosses_vertical z) edges ≡ true

-- No two edges share a place that is no common end.
abbrev pub IsClear : List Edge → Type 0
IsClear edges =
    (i j : ℕ) → i < length edges → j < length edges → (i ≡ j → ⊥)
    → Bad (edge_of edges i) (edge_of edges j) → ⊥

-- Every two places that are inside are joined.
abbrev pub IsConnected : Window2 → List Edge → Type 0
IsConnected u edges =
    (p q : Vector) → IsInside u edges p → IsInside u edges q → Joined (drawing_of u edges) p q

-- Of each segment that crosses one edge, and hits no other, exactly one end is inside.
abbrev pub HasOneInnerSide : Window2 → List Edge → Type 0
HasOneInnerSide u edges =
    (e : ℕ) (p q : Vector) → e < length edges
    → CrossesCurve (drawing_of u edges) (edge_of edges e) e p q
    → (IsInside u edges p × (IsInside u edges q → ⊥))
    ⊎ (IsInside u edges q × (IsInside u edges p → ⊥))

-- The edges are rings around one connected region.
pub record SurfaceHolds (u : Window2) (edges : List Edge) : Type 0 where
  pub clear : IsClear edges
  pub even : EvenEnds edges
  pub some : (z : Vector) × IsInside u edges z
  pub connected : IsConnected u edges

-- The edge has an end that is the end of an odd number of edges.
pub record HasOddEnd (edges : List Edge) (e : ℕ) : Type 0 where
  pub at : Point
  pub of_edge : IsEnd (edge_of edges e) at
  pub odd : parity (same_point at) (ends_of edges) ≡ true

-- Two edges meet; the lesser number is first.
pub record IsMeeting (edges : List Edge) (a b : ℕ) : Type 0 where
  pub less : a < b
  pub within : b < length edges
  pub bad : Bad (edge_of edges a) (edge_of edges b)

-- No two meet, and this is the least edge with an odd end.
pub record IsLeastOdd (edges : List Edge) (e : ℕ) : Type 0 where
  pub clear : IsClear edges
  pub within : e < length edges
  pub odd : HasOddEnd edges e
  pub least : (x : ℕ) → x < e → HasOddEnd edges x → ⊥

-- No two meet, each end is that of an even number of edges, and what is inside is not connected.
pub record HasParts (u : Window2) (edges : List Edge) : Type 0 where
  pub clear : IsClear edges
  pub even : EvenEnds edges
  pub apart : IsConnected u edges → ⊥

abbrev pub IsRingAnswer : Window2 → List Edge → RingAnswer → Type 0
IsRingAnswer u edges answer.Holds = SurfaceHolds u edges
IsRingAnswer u edges (answer.Meeting a b) = IsMeeting edges a b
IsRingAnswer u edges (answer.Odd e) = IsLeastOdd edges e
IsRingAnswer u edges answer.Parts = HasParts u edges
