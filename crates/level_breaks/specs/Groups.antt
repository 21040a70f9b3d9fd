-- A curve with its tube at a level: its edges, where they end, and a box that holds their ends.
use Rattle.std.specs.Prelude.{◌≡◌, ℕ, ◌<◌, ◌≤◌, ◌^◌, Option, Some, None, List, [], ◌∷◌, ◌++◌}
use Rattle.std.specs.Prelude.{length, slice_index_or, ◌≤ℤ◌}
use Rattle.plane.specs.Forms.Boxes.{Box, InBox}
use Rattle.plane.specs.Forms.Vectors.{point}
use Rattle.plane.specs.Lists.{Each}
use Rattle.plane.specs.Rule.Curves.{arc}
use Rattle.plane.specs.Rule.Windows.{IsDrawn, IsNarrow}
use Rattle.plane.specs.declared.kinds.Curve.{Curve}
use Rattle.plane.specs.declared.kinds.CurveKind.TheVariants as kind
use Rattle.plane.specs.declared.kinds.Edge.{Edge}
use Rattle.plane.specs.declared.kinds.Point.{Point}
use Rattle.straight_predicates.specs.EdgeLists.{no_point}
use Rattle.near_pairs.specs.Boxes.{box_of}
use Rattle.tubes.specs.DrawnEdges.{edge_from}
use Rattle.tubes.specs.Making.{IsMade}
use Rattle.tubes.specs.TubedEdges.{AreDistinct, chain_edges}
use Rattle.tubes.specs.declared.kinds.Tube.{Tube}
use Rattle.level_breaks.specs.declared.groups.Group.{Group}

-- the point of each number
abbrev pub nth : List Point → ℕ → Point
nth ps i = slice_index_or ps i no_point

-- the edges from the first point through the others in turn
abbrev pub chain_through : List Point → List Edge
chain_through [] = []
chain_through (p ∷ ps) = chain_edges p ps

-- The edges of a straight, or of a half arc with its tube: those of the inner chain, then those of
-- the outer one.
abbrev pub edges_with : Curve → Option Tube → List Edge
edges_with c None = edge_from c.from c.to ∷ []
edges_with c (Some t) =
    chain_through t.inner.items ++ chain_edges c.from (t.outer.items ++ c.to ∷ [])

-- How many bays there are.
abbrev pub bays_of : Option Tube → ℕ
bays_of None = 0
bays_of (Some t) = length t.outer.items

-- The points in which they end.
abbrev pub corners : Curve → Option Tube → List Point
corners c None = c.from ∷ c.to ∷ []
corners c (Some t) = t.inner.items ++ t.outer.items

-- The curve is a straight and there is no tube, or it is a half arc and the tube is its tube at the
-- level.
abbrev pub IsTubed : ℕ → Curve → Option Tube → Type 0
IsTubed level c None = c.kind ≡ kind.Straight
IsTubed level c (Some t) = (c.kind ≡ kind.HalfArc) × IsMade (arc c) level t

-- The box holds the point; the points.
abbrev pub HoldsPoint : Box → Point → Type 0
HoldsPoint b p = InBox b (point p)

abbrev pub HoldsAll : Box → List Point → Type 0
HoldsAll b ps = Each (λ p. InBox b (point p)) ps

-- The curve is drawn in the window, and has edges at the level, which end in the box.
pub record IsGroup (low high : Point) (level : ℕ) (g : Group) : Type 0 where
  pub drawn : IsDrawn low high g.curve.now
  pub tubed : IsTubed level g.curve.now g.tube.now
  pub holds : HoldsAll (box_of g.reach) (corners g.curve.now g.tube.now)

-- Both are, in one window and at one level.
pub record AreGroups (g h : Group) : Type 0 where
  pub low : Point
  pub high : Point
  pub level : ℕ
  pub narrow : IsNarrow low high
  pub next : ℕ
  pub few : level ≤ 5
  pub next_few : next ≤ 5
  pub first : IsGroup low high level g
  pub second : IsGroup low high next h

-- ---- what is asked of one curve to make its edges
-- The tube's inner points begin with the curve's first end, there are as many bays as outer points,
-- and neighbours differ.
pub record HasChains (c : Curve) (t : Tube) : Type 0 where
  pub after : List Point
  pub inner : t.inner.items ≡ c.from ∷ after
  pub sizes : length t.outer.items ≡ length after
  pub few : length after < 2 ^ 20
  pub inner_distinct : AreDistinct c.from after
  pub outer_distinct : AreDistinct c.from (t.outer.items ++ c.to ∷ [])

abbrev pub IsEdged : Curve → Option Tube → Type 0
IsEdged c None = c.from ≡ c.to → ⊥
IsEdged c (Some t) = HasChains c t

-- All of the one box is in the other.
pub record Covers (b a : Box) : Type 0 where
  pub left : b.low.x ≤ℤ a.low.x
  pub right : a.high.x ≤ℤ b.high.x
  pub under : b.low.y ≤ℤ a.low.y
  pub over : a.high.y ≤ℤ b.high.y
