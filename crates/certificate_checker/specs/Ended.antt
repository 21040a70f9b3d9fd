-- What is known when all events are replayed and all points are placed.
use Rattle.std.specs.Prelude.{◌≡◌, ◌↔◌, ◌⊎◌, ℕ, suc, ◌*◌, ◌<◌, Bool, List, length}
use Rattle.plane.specs.Faces.Classes.{Across, Next, Touches}
use Rattle.plane.specs.Faces.Halves.{Half, edge_of, half_of, mark, number}
use Rattle.half_edges.specs.HalfEdges.{HalfEdges, next_of, size}
use Rattle.certificate.specs.declared.notes.Link.TheVariants as link
use Rattle.certificate_checker.specs.declared.state.Broken.{Broken}
use Rattle.certificate_checker.specs.Marked.{IsMarked}
use Rattle.certificate_checker.specs.Placed.{OfPoint}
use Rattle.certificate_checker.specs.Rules.{BoundsTube, FacesTube, HasCounts, IsPointPlaced}
use Rattle.certificate_checker.specs.Subjects.{Subject, labels, note_at, rank, replay_of}

-- the first of n places at which P fails
pub record IsFirst (P : ℕ → Type 0) (number n : ℕ) (b : Broken) : Type 0 where
  pub rule : b.rule ≡ number
  pub within : b.place < n
  pub before : (i : ℕ) → i < b.place → P i
  pub broken : P b.place → ⊥

-- the mesh and the marks say what lies beside each half-edge
pub record HasEnded (s : Subject) (mesh : HalfEdges)
    (border across point : List Bool) : Type 0 where
  pub counts : HasCounts s
  pub size : size mesh ≡ 2 * length s.edges
  pub next : (h g : Half) → edge_of h < length s.edges
      → (next_of mesh (number h) ≡ number g) ↔ Next (replay_of s) h g
  pub borders : length border ≡ length s.claims.notes
  pub acrosses : length across ≡ length s.claims.notes
  pub points : length point ≡ length s.claims.notes
  pub at_border : (h : Half) → IsMarked border h ↔ Touches (replay_of s) h
  pub is_across : (h : Half) (n : ℕ) → (note_at s h).link ≡ link.Across n → IsMarked across h
      → Across (replay_of s) h (half_of n)
  pub across_is : (h : Half) (n : ℕ) → (note_at s h).link ≡ link.Across n
      → Across (replay_of s) h (half_of n) → (h ≡ half_of n) ⊎ IsMarked across h
  pub placed : (j : ℕ) → j < length s.points → IsPointPlaced s j
  pub at_point : (h : Half) → IsMarked point h ↔ ((j : ℕ) × (j < length s.points) × OfPoint s j h)

-- the half-edge lies outside the chain of the tube's side where its label's point was placed
abbrev pub IsAtOwnTube : Subject → Half → Type 0
IsAtOwnTube s h = (j : ℕ) × (j < length s.points) × (mark (labels s) h ≡ suc j) × BoundsTube s h j

-- the marks and the note make the half-edge a root
pub record IsMarkedRoot (s : Subject) (border point : List Bool) (h : Half) : Type 0 where
  pub rank : rank s h ≡ 0
  pub marks : FacesTube s h
      ⊎ (IsMarked point h ⊎ (IsAtOwnTube s h ⊎ ((mark (labels s) h ≡ 0) × IsMarked border h)))
