-- Of the certificates that keep all rules, the one that is written: where points are placed, which
-- half-edges are roots, and their ranks and links. Its positions and labels need no word here, as
-- the rules force them.
use Rattle.std.specs.Prelude.{◌≡◌, ◌⊎◌, ◌↔◌, ℕ, suc, ◌<◌, ◌≤◌, List, length, ⊤}
use Rattle.plane.specs.Faces.Classes.{Across, Next}
use Rattle.plane.specs.Faces.Halves.{Half, edge_of, half_of}
use Rattle.plane.specs.Faces.Replays.{Replay}
use Rattle.plane.specs.Forms.Vectors.{point}
use Rattle.plane.specs.Rule.Plans.{IsHalfArc, Plan, curve}
use Rattle.plane.specs.Runs.Timetables.{Timed}
use Rattle.plane.specs.Tubes.Bays.{InTube}
use Rattle.certificate.specs.declared.notes.Link.{Link}
use Rattle.certificate.specs.declared.notes.Link.TheVariants as link
use Rattle.certificate.specs.declared.notes.PointPlace.{PointPlace}
use Rattle.certificate.specs.declared.notes.PointPlace.TheVariants as place
use Rattle.certificate_checker.specs.Rules.{IsRootOf}
use Rattle.certificate_checker.specs.Subjects.{Claims, Subject, bays_of, note_at, place_at}
use Rattle.certificate_checker.specs.Subjects.{point_at, rank, replay_of}
use Rattle.certificate_checker.specs.Verdicts.{IsTableOf, subject_of}

-- ---- places
-- Some tube holds the point.
abbrev pub IsInSomeTube : Subject → ℕ → Type 0
IsInSomeTube s j =
    (i : ℕ) × IsHalfArc s.drawing i
    × InTube (curve s.drawing i).from (bays_of s i) (point (point_at s j))

-- A point that some tube holds is placed in a tube, and any other by its position.
abbrev pub IsChosenPlace : Subject → ℕ → PointPlace → Type 0
IsChosenPlace s j (place.Cell position) = IsInSomeTube s j → ⊥
IsChosenPlace s j (place.Tube curve inside) = IsInSomeTube s j

-- ---- roots, ranks and links
-- The half-edge is one of the drawing's, and the rule on roots allows it to be one.
abbrev pub MayBeRoot : Subject → Half → Type 0
MayBeRoot s h = (edge_of h < length s.edges) × IsRootOf s h

-- One link leads from g to h: to the next half-edge, to the previous one, or across a cell.
abbrev pub LinksTo : Replay → Half → Half → Type 0
LinksTo r g h = Next r g h ⊎ (Next r h g ⊎ Across r g h)

-- So many links lead from g to h.
pub data LeadsIn (r : Replay) : ℕ → Half → Half → Type 0 where
  none : (n : ℕ) (g h : Half) → n ≡ 0 → g ≡ h → LeadsIn r n g h
  more : (n k : ℕ) (g h i : Half) → n ≡ suc k → LinksTo r g h → LeadsIn r k h i → LeadsIn r n g i

-- The rank of the half-edge is the least number of links that lead from it to a root.
pub record HasLeastRank (s : Subject) (h : Half) : Type 0 where
  pub root : Half
  pub may_be : MayBeRoot s root
  pub leads : LeadsIn (replay_of s) (rank s h) h root
  pub least : (n : ℕ) (r : Half) → MayBeRoot s r → LeadsIn (replay_of s) n h r → rank s h ≤ n

-- The rank of g is one less than that of h.
abbrev pub IsOneLess : Subject → Half → Half → Type 0
IsOneLess s h g = rank s h ≡ suc (rank s g)

-- The next half-edge has a rank one less.
abbrev pub NextIsLess : Subject → Half → Type 0
NextIsLess s h = (g : Half) × Next (replay_of s) h g × IsOneLess s h g

-- A half-edge of which this is the next has a rank one less.
abbrev pub PreviousIsLess : Subject → Half → Type 0
PreviousIsLess s h = (g : Half) × Next (replay_of s) g h × IsOneLess s h g

-- That one is across a cell, and has a rank one less.
abbrev pub AcrossIsLess : Subject → Half → Half → Type 0
AcrossIsLess s h g = Across (replay_of s) h g × IsOneLess s h g

-- The link is the first that leads to a rank one less, of N, of P, and of C by number. A root has
-- none.
abbrev pub IsFirstLink : Subject → Half → Link → Type 0
IsFirstLink s h link.Root = ⊤
IsFirstLink s h link.Next = NextIsLess s h
IsFirstLink s h link.Prev = PreviousIsLess s h × (NextIsLess s h → ⊥)
IsFirstLink s h (link.Across n) =
    AcrossIsLess s h (half_of n) × (NextIsLess s h → ⊥) × (PreviousIsLess s h → ⊥)
    × ((m : ℕ) → m < n → AcrossIsLess s h (half_of m) → ⊥)

-- The half-edge is a root exactly where the rule on roots allows it; its rank is the least number
-- of links to a root, and its link the first to a rank one less.
pub record IsChosenNote (s : Subject) (h : Half) : Type 0 where
  pub root : ((note_at s h).link ≡ link.Root) ↔ MayBeRoot s h
  pub rank_is : HasLeastRank s h
  pub first : IsFirstLink s h (note_at s h).link

-- ---- the certificate
-- All places and all notes are those that are chosen.
pub record AreChosen (s : Subject) : Type 0 where
  pub places : (j : ℕ) → j < length s.points → IsChosenPlace s j (place_at s j)
  pub notes : (h : Half) → edge_of h < length s.edges → IsChosenNote s h

-- The claims are those that are chosen for the drawing at their level.
pub record IsChosen (d : Plan) (c : Claims) : Type 0 where
  pub table : List Timed
  pub is_table : IsTableOf d c.level table
  pub chosen : AreChosen (subject_of d c table)
