-- How far a search for faces has come.
use Rattle.std.specs.Prelude.{◌≡◌, ◌⊎◌, ℕ, suc, ◌-◌, ◌^◌, ◌<◌, ◌≤◌, List, [], ◌∷◌, ◌++◌, length}
use Rattle.std.specs.Prelude.{take, slice_index, slice_set, vec_capacity}
use Rattle.plane.specs.Lists.{Has, Once}
use Rattle.plane.specs.Runs.Gaps.{Gap}
use Rattle.half_edges.specs.HalfEdges.{HalfEdges, size, next_of, prev_of}
use Rattle.faces.specs.declared.searching.Search.{Search}
use Rattle.half_edges.specs.Meshes.{IsMesh}
use Rattle.faces.specs.declared.graph.Graph.{Graph}
use Rattle.faces.specs.Joined.{Across, AtBorder, Joined}
use Rattle.faces.specs.Joins.{AreJoins, cells_of}
use Rattle.faces.specs.Labels.{IsNumbered, greatest}

-- The entry of a half-edge that has no face yet.
abbrev pub unset : ℕ
unset = 2 ^ 32 - 1

abbrev pub IsSet : List ℕ → ℕ → Type 0
IsSet faces h = slice_index faces h ≡ unset → ⊥

-- One step leads from g to h.
abbrev pub IsNear : HalfEdges → List Gap → ℕ → ℕ → Type 0
IsNear mesh cells g h = (next_of mesh g ≡ h) ⊎ ((prev_of mesh g ≡ h) ⊎ Across cells g h)

-- The half-edges in the queue are those that have a face. From the first ones, which are passed,
-- each step leads to one of the same face. Two of one face are joined, and those of face 0 with one
-- at the border.
pub record IsSearched (mesh : HalfEdges) (cells : List Gap) (faces queue : List ℕ)
    (passed : ℕ) : Type 0 where
  pub sized : length faces ≡ size mesh
  pub known : (h : ℕ) → Has h queue → h < size mesh
  pub once : Once queue
  pub set : (h : ℕ) → Has h queue → IsSet faces h
  pub all : (h : ℕ) → h < size mesh → IsSet faces h → Has h queue
  pub within : passed ≤ length queue
  pub closed : (i h : ℕ) → i < passed → IsNear mesh cells (slice_index queue i) h
      → slice_index faces h ≡ slice_index faces (slice_index queue i)
  pub sound : (g h : ℕ) → g < size mesh → h < size mesh → IsSet faces g
      → slice_index faces g ≡ slice_index faces h → Joined mesh cells g h
  pub outer : (h : ℕ) → h < size mesh → slice_index faces h ≡ 0
      → (t : ℕ) × Joined mesh cells h t × AtBorder cells t

-- The half-edges of the queue that are not passed have this face.
abbrev pub AreWaiting : List ℕ → List ℕ → ℕ → ℕ → Type 0
AreWaiting faces queue passed face =
    (i : ℕ) → passed ≤ i → i < length queue → slice_index faces (slice_index queue i) ≡ face

-- The same of what the program keeps, with room for all half-edges in the queue.
pub record HasSearched (mesh : HalfEdges) (cells : List Gap) (s : Search) : Type 0 where
  pub searched : IsSearched mesh cells s.faces.items s.queue.items s.passed
  pub room : size mesh ≤ vec_capacity s.queue

abbrev pub IsWaiting : Search → ℕ → Type 0
IsWaiting s face = AreWaiting s.faces.items s.queue.items s.passed face

-- Which half-edges have a face stays, and which one.
abbrev pub IsKept : List ℕ → List ℕ → Type 0
IsKept old new = (h : ℕ) → IsSet old h → slice_index new h ≡ slice_index old h

-- What has a face now had one before, or has this one.
abbrev pub IsGiven : ℕ → List ℕ → List ℕ → Type 0
IsGiven face old new = (h : ℕ) → IsSet new h → IsSet old h ⊎ (slice_index new h ≡ face)

-- A half-edge without face got this one and joined the queue; or it had one, and nothing changed.
pub record IsPut (h face : ℕ) (old new : Search) : Type 0 where
  pub free : slice_index old.faces.items h ≡ unset
  pub faces : new.faces.items ≡ slice_set old.faces.items h face
  pub queue : new.queue.items ≡ old.queue.items ++ h ∷ []

pub record IsSame (h : ℕ) (old new : Search) : Type 0 where
  pub has : IsSet old.faces.items h
  pub faces : new.faces.items ≡ old.faces.items
  pub queue : new.queue.items ≡ old.queue.items

abbrev pub IsReached : ℕ → ℕ → Search → Search → Type 0
IsReached h face old new = IsPut h face old new ⊎ IsSame h old new

-- The graph is that of a mesh and the joins of its half-edges.
pub record IsGraph (g : Graph) : Type 0 where
  pub mesh_is : IsMesh g.mesh.now
  pub joins : AreJoins (size g.mesh.now) (cells_of g.joins.now) g.joins.now

-- The half-edge h, next in the queue, is being passed.
pub record IsPassing (mesh : HalfEdges) (cells : List Gap) (h face : ℕ) (s : Search) : Type 0 where
  pub searched : HasSearched mesh cells s
  pub waiting : IsWaiting s face
  pub more : s.passed < length s.queue.items
  pub here : slice_index s.queue.items s.passed ≡ h

-- The half-edges before h have their faces, which are the numbers below count.
pub record IsNumberedTo (mesh : HalfEdges) (cells : List Gap) (h count : ℕ)
    (s : Search) : Type 0 where
  pub searched : HasSearched mesh cells s
  pub done : s.passed ≡ length s.queue.items
  pub few : count ≤ suc h
  pub reached : (g : ℕ) → g < h → IsSet s.faces.items g
  pub values : (g : ℕ) → g < size mesh → IsSet s.faces.items g → slice_index s.faces.items g < count
  pub seeds : (f : ℕ) → 0 < f → f < count → Has f (take h s.faces.items)
  pub numbered : (g : ℕ) → g < h → IsNumbered s.faces.items g
  pub count_is : count ≡ suc (greatest (take h s.faces.items))
  pub border : (g : ℕ) → AtBorder cells g → slice_index s.faces.items g ≡ 0

-- The first half-edge of the queue that is not passed.
abbrev pub head_of : Search → ℕ
head_of s = slice_index s.queue.items s.passed
