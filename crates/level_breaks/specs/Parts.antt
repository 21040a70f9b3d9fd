-- The parts of a curve with its tube: each has an edge of the outer chain, and all but the last one
-- an edge of the inner chain and a bay. The one part of a straight is the straight.
use Rattle.std.specs.Prelude.{◌≡◌, ◌⊎◌, ℕ, suc, ◌+◌, ◌<◌, ◌≤◌, Option, Some, None, List, ◌∷◌, []}
use Rattle.std.specs.Prelude.{◌++◌, length}
use Rattle.plane.specs.Forms.Boxes.{Box}
use Rattle.plane.specs.Forms.Meets.{Bad, IsEnd}
use Rattle.plane.specs.Forms.Vectors.{Before, Vector, point}
use Rattle.plane.specs.Rule.BadPairs.{IsEndOf}
use Rattle.plane.specs.declared.kinds.Curve.{Curve}
use Rattle.plane.specs.declared.kinds.Edge.{Edge}
use Rattle.plane.specs.declared.kinds.Point.{Point}
use Rattle.straight_predicates.specs.EdgeLists.{edge_of}
use Rattle.straight_predicates.specs.Meetings.{EdgesAreClose}
use Rattle.tubes.specs.Holding.{AreTurnable, InBay, InGap}
use Rattle.tubes.specs.declared.kinds.Tube.{Tube}
use Rattle.level_breaks.specs.Groups.{HoldsPoint, bays_of, edges_with, nth}
use Rattle.level_breaks.specs.Stretches.{SomeOf}

-- The edge is the part's edge in the outer chain, or in the inner one.
abbrev pub HasEdge : Curve → Option Tube → ℕ → Edge → Type 0
HasEdge c t i e = (e ≡ edge_of (edges_with c t) (bays_of t + i))
    ⊎ ((i < bays_of t) × (e ≡ edge_of (edges_with c t) i))

-- Of each curve there is a part of the number.
pub record ArePartsOf (t u : Option Tube) (i j : ℕ) : Type 0 where
  pub first : i ≤ bays_of t
  pub second : j ≤ bays_of u

-- The box holds the first corners of the part of the number.
pub record HoldsStart (c : Curve) (t : Tube) (b : Box) (i : ℕ) : Type 0 where
  pub inner : HoldsPoint b (nth t.inner.items i)
  pub outer : HoldsPoint b (nth (c.from ∷ t.outer.items) i)

-- The box holds the ends of the part's edges, and with them the corners of its triangles.
pub record HoldsTubePart (c : Curve) (t : Tube) (b : Box) (i : ℕ) : Type 0 where
  pub inner : HoldsPoint b (nth t.inner.items i)
  pub next : i < length t.outer.items → HoldsPoint b (nth t.inner.items (suc i))
  pub start : HoldsPoint b (nth (c.from ∷ t.outer.items) i)
  pub end : HoldsPoint b (nth (t.outer.items ++ c.to ∷ []) i)

abbrev pub HoldsPart : Curve → Option Tube → Box → ℕ → Type 0
HoldsPart c None b i = HoldsPoint b c.from × HoldsPoint b c.to
HoldsPart c (Some t) b i = HoldsTubePart c t b i

-- ---- triangles
-- The place is in the triangle of the inner point of the number and the outer points on either
-- side of it.
abbrev pub IsInGapBefore : List Point → List Point → Vector → ℕ → Type 0
IsInGapBefore inner outer z j = (i : ℕ) × (suc i ≡ j) × InGap inner outer z i

-- It is in that one, or in the bay.
abbrev pub IsInTriangles : List Point → List Point → Vector → ℕ → Type 0
IsInTriangles inner outer z j = InBay inner outer z j ⊎ IsInGapBefore inner outer z j

abbrev pub IsInPart : Tube → Vector → ℕ → Type 0
IsInPart t z j = (j < length t.outer.items) × IsInTriangles t.inner.items t.outer.items z j

-- ---- ends of edges in a part
-- The point is no end of the curve, and in the part of its tube.
abbrev pub EntersPart : Curve → Tube → ℕ → Point → Type 0
EntersPart c t j p = (IsEndOf c p → ⊥) × IsInPart t (point p) j

abbrev pub Enters : Curve → Option Tube → ℕ → Point → Type 0
Enters c None j p = ⊥
Enters c (Some t) j p = EntersPart c t j p

abbrev pub EndsInPart : Curve → Option Tube → ℕ → Edge → Type 0
EndsInPart c t j f = (p : Point) × IsEnd f p × Enters c t j p

-- An edge of the one part ends in the other part's triangles.
abbrev pub EndsEnter : Curve → Option Tube → ℕ → Curve → Option Tube → ℕ → Type 0
EndsEnter c t i e u j = (f : Edge) × HasEdge c t i f × EndsInPart e u j f

abbrev pub InnerEnters : Curve → Option Tube → ℕ → Curve → Option Tube → ℕ → Type 0
InnerEnters c t i e u j = (i < bays_of t) × EndsInPart e u j (edge_of (edges_with c t) i)

-- Turns say whether the ends of the edges are in the tube.
abbrev pub AreTurnableAt : Tube → List Edge → Type 0
AreTurnableAt t es = (k : ℕ) → k < length es → (p : Point) → IsEnd (edge_of es k) p
    → AreTurnable t.inner.items t.outer.items p

-- ---- edges that meet
-- The edge can be tested with each edge of the list.
pub record IsBeside (e : Edge) (fs : List Edge) : Type 0 where
  pub sorted : Before e.low e.high
  pub rising : (k : ℕ) → k < length fs → Before (edge_of fs k).low (edge_of fs k).high
  pub close : (k : ℕ) → k < length fs → EdgesAreClose e (edge_of fs k)

-- The edge and one of the part share a place that is no common end, or more than one.
abbrev pub MeetsPart : Curve → Option Tube → ℕ → Edge → Type 0
MeetsPart c t i f = (g : Edge) × HasEdge c t i g × Bad f g

abbrev pub MeetsInner : Curve → Option Tube → ℕ → Edge → Type 0
MeetsInner c t i f = (i < bays_of t) × Bad f (edge_of (edges_with c t) i)

abbrev pub EdgesMeet : Curve → Option Tube → ℕ → Curve → Option Tube → ℕ → Type 0
EdgesMeet c t i e u j = (f : Edge) × HasEdge c t i f × MeetsPart e u j f

abbrev pub InnerMeets : Curve → Option Tube → ℕ → Curve → Option Tube → ℕ → Type 0
InnerMeets c t i e u j = (i < bays_of t) × MeetsPart e u j (edge_of (edges_with c t) i)

-- ---- in all
abbrev pub PartsClash : Curve → Option Tube → Curve → Option Tube → ℕ → ℕ → Type 0
PartsClash c t e u i j =
    EdgesMeet c t i e u j ⊎ (EndsEnter c t i e u j ⊎ EndsEnter e u j c t i)

abbrev pub SomeClash : Curve → Option Tube → Curve → Option Tube → Type 0
SomeClash c t e u =
    SomeOf (λ i. SomeOf (PartsClash c t e u i) 0 (suc (bays_of u))) 0 (suc (bays_of t))
