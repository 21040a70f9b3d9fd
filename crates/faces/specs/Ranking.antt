-- Ranks: how many steps lead from a half-edge to a root, and the links of a certificate.
use Rattle.std.specs.Prelude.{◌≡◌, ◌⊎◌, ◌↔◌, ℕ, suc, ◌<◌, ◌≤◌, List, ◌∷◌, [], ◌++◌, length}
use Rattle.std.specs.Prelude.{slice_index, slice_index_or, slice_set, vec_capacity}
use Rattle.plane.specs.Lists.{Has, Once}
use Rattle.plane.specs.Runs.Gaps.{Gap}
use Rattle.half_edges.specs.HalfEdges.{HalfEdges, size, next_of, prev_of, face_of}
use Rattle.certificate.specs.declared.notes.HalfNote.{HalfNote}
use Rattle.certificate.specs.declared.notes.Link.{Link}
use Rattle.certificate.specs.declared.notes.Link.TheVariants as link
use Rattle.faces.specs.declared.ranks.Ranks.{Ranks}
use Rattle.faces.specs.Joined.{Across}
use Rattle.faces.specs.Searching.{IsNear, IsSet, unset}

-- Steps round a face, either way, and across cells lead from g to h.
pub data Leads (mesh : HalfEdges) (cells : List Gap) : ℕ → ℕ → Type 0 where
  there : (g h : ℕ) → g ≡ h → Leads mesh cells g h
  step : (g h i : ℕ) → IsNear mesh cells g h → Leads mesh cells h i → Leads mesh cells g i

-- Each half-edge of the mesh leads to a root.
abbrev pub AreRooted : HalfEdges → List Gap → List ℕ → Type 0
AreRooted mesh cells roots = (h : ℕ) → h < size mesh → (r : ℕ) × Has r roots × Leads mesh cells h r

-- ---- what ranks are
-- The ranks are those of a search from the roots: 0 exactly at them, some step leads from any other
-- half-edge to a rank one less, and none to a rank that is less by two or more.
pub record AreRanks (mesh : HalfEdges) (cells : List Gap) (roots ranks : List ℕ) : Type 0 where
  pub sized : length ranks ≡ size mesh
  pub small : (h : ℕ) → h < size mesh → slice_index ranks h < unset
  pub root : (h : ℕ) → h < size mesh → (slice_index ranks h ≡ 0) ↔ Has h roots
  pub less : (h k : ℕ) → h < size mesh → slice_index ranks h ≡ suc k
      → (g : ℕ) × IsNear mesh cells h g × (slice_index ranks g ≡ k)
  pub near : (h g : ℕ) → h < size mesh → IsNear mesh cells h g
      → slice_index ranks h ≤ suc (slice_index ranks g)

-- ---- links
-- The rank of g is one less than that of h.
abbrev pub IsBefore : List ℕ → ℕ → ℕ → Type 0
IsBefore ranks h g = slice_index ranks h ≡ suc (slice_index ranks g)

-- The link is none where the rank is 0; else it leads to the first half-edge whose rank is one
-- less, of the next one, the previous one, and those across cells by number.
abbrev pub IsLink : HalfEdges → List Gap → List ℕ → ℕ → Link → Type 0
IsLink mesh cells ranks h link.Root = slice_index ranks h ≡ 0
IsLink mesh cells ranks h link.Next = IsBefore ranks h (next_of mesh h)
IsLink mesh cells ranks h link.Prev =
    IsBefore ranks h (prev_of mesh h) × (IsBefore ranks h (next_of mesh h) → ⊥)
IsLink mesh cells ranks h (link.Across g) =
    Across cells h g × IsBefore ranks h g × (IsBefore ranks h (next_of mesh h) → ⊥)
    × (IsBefore ranks h (prev_of mesh h) → ⊥)
    × ((i : ℕ) → i < g → Across cells h i → IsBefore ranks h i → ⊥)

abbrev pub no_note : HalfNote
no_note = record { label = 0; link = link.Root; rank = 0 }

-- The notes give the faces of the half-edges, their ranks and their links.
pub record AreNotes (mesh : HalfEdges) (cells : List Gap) (roots : List ℕ)
    (notes : List HalfNote) : Type 0 where
  pub ranks : List ℕ
  pub are_ranks : AreRanks mesh cells roots ranks
  pub size_is : length notes ≡ size mesh
  pub label : (h : ℕ) → h < size mesh → (slice_index_or notes h no_note).label ≡ face_of mesh h
  pub rank : (h : ℕ) → h < size mesh → (slice_index_or notes h no_note).rank ≡ slice_index ranks h
  pub link_is : (h : ℕ) → h < size mesh
      → IsLink mesh cells ranks h (slice_index_or notes h no_note).link

-- ---- how far the search has come
-- The half-edges in the queue are those that have a rank. Ranks rise along the queue, by one at
-- most from the first half-edge that is not passed on; from those that are passed each step leads
-- to a rank that is one more at most.
pub record IsRanked (mesh : HalfEdges) (cells : List Gap) (ranks queue : List ℕ)
    (passed : ℕ) : Type 0 where
  pub sized : length ranks ≡ size mesh
  pub known : (h : ℕ) → Has h queue → h < size mesh
  pub once : Once queue
  pub set : (h : ℕ) → Has h queue → IsSet ranks h
  pub all : (h : ℕ) → h < size mesh → IsSet ranks h → Has h queue
  pub within : passed ≤ length queue
  pub low : (i : ℕ) → i < length queue → slice_index ranks (slice_index queue i) ≤ i
  pub rises : (i j : ℕ) → i ≤ j → j < length queue
      → slice_index ranks (slice_index queue i) ≤ slice_index ranks (slice_index queue j)
  pub flat : (i : ℕ) → passed < length queue → i < length queue
      → slice_index ranks (slice_index queue i) ≤ suc (slice_index ranks (slice_index queue passed))
  pub closed : (i g : ℕ) → i < passed → IsNear mesh cells (slice_index queue i) g
      → IsSet ranks g × (slice_index ranks g ≤ suc (slice_index ranks (slice_index queue i)))
  pub less : (h k : ℕ) → h < size mesh → IsSet ranks h → slice_index ranks h ≡ suc k
      → (g : ℕ) × IsNear mesh cells h g × IsSet ranks g × (slice_index ranks g ≡ k)
  pub small : (h : ℕ) → h < size mesh → IsSet ranks h → slice_index ranks h < unset

-- The same of what the program keeps, with room for all half-edges in the queue.
pub record HasRanked (mesh : HalfEdges) (cells : List Gap) (s : Ranks) : Type 0 where
  pub ranked : IsRanked mesh cells s.ranks.items s.queue.items s.passed
  pub room : size mesh ≤ vec_capacity s.queue

-- A half-edge without rank got this one and joined the queue; or it had one, and nothing changed.
pub record IsRankPut (h rank : ℕ) (old new : Ranks) : Type 0 where
  pub free : slice_index old.ranks.items h ≡ unset
  pub ranks : new.ranks.items ≡ slice_set old.ranks.items h rank
  pub queue : new.queue.items ≡ old.queue.items ++ h ∷ []

pub record IsRankSame (h : ℕ) (old new : Ranks) : Type 0 where
  pub has : IsSet old.ranks.items h
  pub ranks : new.ranks.items ≡ old.ranks.items
  pub queue : new.queue.items ≡ old.queue.items

abbrev pub IsRankReached : ℕ → ℕ → Ranks → Ranks → Type 0
IsRankReached h rank old new = IsRankPut h rank old new ⊎ IsRankSame h old new

-- No half-edge gets the rank 0.
abbrev pub AreLater : List ℕ → List ℕ → Type 0
AreLater old new = (h : ℕ) → slice_index new h ≡ 0 → slice_index old h ≡ 0

abbrev pub first_of : Ranks → ℕ
first_of s = slice_index s.queue.items s.passed

-- The half-edge h of this rank, next in the queue, is being passed.
pub record IsRanking (mesh : HalfEdges) (cells : List Gap) (h rank : ℕ) (s : Ranks) : Type 0 where
  pub ranked : HasRanked mesh cells s
  pub more : s.passed < length s.queue.items
  pub here : slice_index s.queue.items s.passed ≡ h
  pub rank_is : slice_index s.ranks.items h ≡ rank

abbrev pub first_rank : Ranks → ℕ
first_rank s = slice_index s.ranks.items (first_of s)

-- The half-edge has a rank, which is this one at most.
abbrev pub HasRankMost : List ℕ → ℕ → ℕ → Type 0
HasRankMost ranks h most = IsSet ranks h × (slice_index ranks h ≤ most)

-- The half-edge is one of the row, and has this rank.
abbrev pub HasRank : List ℕ → List ℕ → ℕ → ℕ → Type 0
HasRank ranks row rank g = Has g row × (slice_index ranks g ≡ rank)

-- The note gives the face of the half-edge, its rank and its link.
pub record IsNote (mesh : HalfEdges) (cells : List Gap) (ranks : List ℕ) (h : ℕ)
    (note : HalfNote) : Type 0 where
  pub label_is : note.label ≡ face_of mesh h
  pub rank_is : note.rank ≡ slice_index ranks h
  pub link_is : IsLink mesh cells ranks h note.link

-- So many steps lead from g to h.
pub data LeadsIn (mesh : HalfEdges) (cells : List Gap) : ℕ → ℕ → ℕ → Type 0 where
  at_root : (n g h : ℕ) → n ≡ 0 → g ≡ h → LeadsIn mesh cells n g h
  one_step : (n k g h i : ℕ) → n ≡ suc k → IsNear mesh cells g h → LeadsIn mesh cells k h i
      → LeadsIn mesh cells n g i
