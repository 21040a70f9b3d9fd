-- Corners of tubes at which no other curve's edge ends, by a list of edges and the moves of a run.
use Rattle.std.specs.Prelude.{◌≡◌, ◌⊎◌, ℕ, ◌+◌, ◌<◌, List, length, ⊤}
use Rattle.plane.specs.Forms.Meets.{IsEnd}
use Rattle.plane.specs.Lists.{Has}
use Rattle.plane.specs.Rule.BadPairs.{IsEndOf}
use Rattle.plane.specs.Rule.Plans.{Plan, curve}
use Rattle.plane.specs.Runs.Moves.{Move}
use Rattle.plane.specs.declared.kinds.Point.{Point}
use Rattle.straight_predicates.specs.EdgeLists.{edge_of}
use Rattle.tubes.specs.declared.kinds.EdgeList.{EdgeList}
use Rattle.tubes.specs.declared.kinds.Part.{Part}
use Rattle.tubes.specs.declared.kinds.Part.TheVariants as part
use Rattle.area_search.specs.Settled.CaseRoots.{owner_at}

abbrev pub IsOfTube : Part → Type 0
IsOfTube part.Straight = ⊥
IsOfTube part.Inner = ⊤
IsOfTube part.Outer = ⊤

-- Two edges end or start at the event.
abbrev pub HasTwoEdges : Move → Type 0
HasTwoEdges v = v.ending + length v.starting ≡ 2

-- One of the moves is at the point, and two edges end or start there.
pub record HasTwoAt (vs : List Move) (p : Point) : Type 0 where
  pub v : Move
  pub has : Has v vs
  pub at : v.at ≡ p
  pub two : HasTwoEdges v

-- The other edge is of the same curve, and ends at the point.
pub record IsOtherAt (list : EdgeList) (e other : ℕ) (p : Point) : Type 0 where
  pub there : other < length list.edges.items
  pub differ : e ≡ other → ⊥
  pub same : (owner_at list.owners.items other).curve ≡ (owner_at list.owners.items e).curve
  pub ends : IsEnd (edge_of list.edges.items other) p

-- The end of the edge is an end of its curve; or another edge of the curve ends there too, and no
-- third edge.
abbrev pub IsOwnEnd : Plan → EdgeList → List Move → ℕ → Point → Type 0
IsOwnEnd d list vs e p =
    IsEndOf (curve d (owner_at list.owners.items e).curve) p
    ⊎ (((other : ℕ) × IsOtherAt list e other p) × HasTwoAt vs p)

-- Both ends of an edge of a tube are so.
abbrev pub HasOwnCorners : Plan → EdgeList → List Move → ℕ → Type 0
HasOwnCorners d list vs e = IsOfTube (owner_at list.owners.items e).part
    → IsOwnEnd d list vs e (edge_of list.edges.items e).low
    × IsOwnEnd d list vs e (edge_of list.edges.items e).high

-- Those of the first n edges are so.
abbrev pub AreOwn : Plan → EdgeList → List Move → ℕ → Type 0
AreOwn d list vs n = (e : ℕ) → e < n → HasOwnCorners d list vs e
