-- Which half-edges are joined: by the way round a face, across cells, and over the border.
use Rattle.std.specs.Prelude.{◌≡◌, ◌⊎◌, ℕ, ◌<◌, Option, Some, None, List}
use Rattle.plane.specs.Lists.{Has}
use Rattle.plane.specs.Runs.Gaps.{Gap}
use Rattle.half_edges.specs.HalfEdges.{HalfEdges, size, next_of, over_of, under_of}

-- Some cell lies between these two edges, None below all and above all.
abbrev pub HasCell : List Gap → Option ℕ → Option ℕ → Type 0
HasCell cells l u = (c : Gap) × Has c cells × (c.lower ≡ l) × (c.upper ≡ u)

-- Some cell has g on its lower side and h on its upper side.
pub record IsBetween (cells : List Gap) (g h : ℕ) : Type 0 where
  pub lower : ℕ
  pub upper : ℕ
  pub cell : HasCell cells (Some lower) (Some upper)
  pub low_side : g ≡ over_of lower
  pub high_side : h ≡ under_of upper

-- Some cell has the two.
abbrev pub Across : List Gap → ℕ → ℕ → Type 0
Across cells g h = IsBetween cells g h ⊎ IsBetween cells h g

-- The half-edge is that under the lowest edge of a live list, or that over the highest.
pub data AtBorder (cells : List Gap) (h : ℕ) : Type 0 where
  lowest : (e : ℕ) → HasCell cells None (Some e) → h ≡ under_of e → AtBorder cells h
  highest : (e : ℕ) → HasCell cells (Some e) None → h ≡ over_of e → AtBorder cells h

-- The least equivalence of half-edges that joins each one with its next one, the two of each cell,
-- and all at the border.
pub data Joined (mesh : HalfEdges) (cells : List Gap) : ℕ → ℕ → Type 0 where
  same : (g h : ℕ) → g ≡ h → Joined mesh cells g h
  onward : (g h i : ℕ) → g < size mesh → next_of mesh g ≡ h → Joined mesh cells h i
      → Joined mesh cells g i
  back : (g h i : ℕ) → h < size mesh → next_of mesh h ≡ g → Joined mesh cells h i
      → Joined mesh cells g i
  across : (g h i : ℕ) → Across cells g h → Joined mesh cells h i → Joined mesh cells g i
  outside : (g h i : ℕ) → AtBorder cells g → AtBorder cells h → Joined mesh cells h i
      → Joined mesh cells g i

-- Both half-edges of each edge of the cells have numbers below n.
abbrev pub AreKnown : ℕ → List Gap → Type 0
AreKnown n cells =
    (c : Gap) (e : ℕ) → Has c cells → (c.lower ≡ Some e) ⊎ (c.upper ≡ Some e) → over_of e < n
