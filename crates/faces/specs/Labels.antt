-- What face numbers of half-edges are.
use Rattle.std.specs.Prelude.{◌≡◌, ◌⊎◌, ◌↔◌, ℕ, suc, ◌<◌, max, List, [], ◌∷◌, length, take}
use Rattle.std.specs.Prelude.{slice_index}
use Rattle.plane.specs.Lists.{Has}
use Rattle.plane.specs.Runs.Gaps.{Gap}
use Rattle.half_edges.specs.HalfEdges.{HalfEdges, size}
use Rattle.faces.specs.Joined.{AtBorder, Joined}

-- The greatest of the numbers, 0 where there is none.
abbrev pub greatest : List ℕ → ℕ
greatest [] = 0
greatest (n ∷ ns) = max n (greatest ns)

-- Each face is 0, or a face met before, or one more than all faces so far.
abbrev pub IsNumbered : List ℕ → ℕ → Type 0
IsNumbered faces h =
    Has (slice_index faces h) (0 ∷ take h faces)
    ⊎ (slice_index faces h ≡ suc (greatest (take h faces)))

-- Half-edges have one face exactly where they are joined, and face 0 exactly where they are joined
-- with one at the border. The other faces are numbered in the order of their least half-edge.
pub record AreFaces (mesh : HalfEdges) (cells : List Gap) (faces : List ℕ) : Type 0 where
  pub size_is : length faces ≡ size mesh
  pub one : (g h : ℕ) → g < size mesh → h < size mesh
      → (slice_index faces g ≡ slice_index faces h) ↔ Joined mesh cells g h
  pub outer : (h : ℕ) → h < size mesh
      → (slice_index faces h ≡ 0) ↔ ((t : ℕ) × Joined mesh cells h t × AtBorder cells t)
  pub numbered : (h : ℕ) → h < size mesh → IsNumbered faces h
