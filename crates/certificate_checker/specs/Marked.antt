-- Marks of half-edges, and the gaps between neighbours that make them.
use Rattle.std.specs.Prelude.{◌≡◌, ◌↔◌, ◌⊎◌, ℕ, ◌+◌, ◌*◌, ◌<◌, Bool, true, false, Option, Some}
use Rattle.std.specs.Prelude.{None, List, length, get_or}
use Rattle.plane.specs.Faces.Halves.{Half, number, over, under}
use Rattle.plane.specs.Lists.{Has}
use Rattle.plane.specs.Runs.Gaps.{Gap}
use Rattle.certificate.specs.declared.notes.HalfNote.{HalfNote}
use Rattle.certificate.specs.declared.notes.Link.TheVariants as link
use Rattle.certificate_checker.specs.Subjects.{note_in}

-- both half-edges of each of these edges have a note
abbrev pub AreNotes : List HalfNote → List ℕ → Type 0
AreNotes notes edges = (i : ℕ) → i < length edges → 2 * get_or edges i 0 + 1 < length notes

abbrev pub HasNote : List HalfNote → Option ℕ → Type 0
HasNote notes edge = (e : ℕ) → edge ≡ Some e → 2 * e + 1 < length notes

-- the half-edge is marked
abbrev pub IsMarked : List Bool → Half → Type 0
IsMarked marks h = get_or marks (number h) false ≡ true

-- the gap lies between the half-edge and a border
abbrev pub IsAtBorder : Gap → Half → Type 0
IsAtBorder g (under e) = (g.lower ≡ None) × (g.upper ≡ Some e)
IsAtBorder g (over d) = (g.lower ≡ Some d) × (g.upper ≡ None)

-- the gap lies between the half-edge and the one that its note names
abbrev pub NamesAcross : List HalfNote → Gap → Half → Type 0
NamesAcross notes g (under e) =
    (d : ℕ) × (g.lower ≡ Some d) × (g.upper ≡ Some e)
    × ((note_in notes (under e)).link ≡ link.Across (number (over d)))
NamesAcross notes g (over d) =
    (e : ℕ) × (g.lower ≡ Some d) × (g.upper ≡ Some e)
    × ((note_in notes (over d)).link ≡ link.Across (number (under e)))

-- the note of the one half-edge names the other across a cell
abbrev pub IsNamed : List HalfNote → ℕ → ℕ → Type 0
IsNamed notes half other =
    (get_or notes half (record { label = 0; link = link.Root; rank = 0 })).link ≡ link.Across other

-- P holds of one of the gaps and the half-edge
abbrev pub OfSome : (Gap → Half → Type 0) → List Gap → Half → Type 0
OfSome P gaps h = (g : Gap) × Has g gaps × P g h

-- the half-edges of which P holds with one of the gaps were marked too
pub record AreMarked (P : Gap → Half → Type 0) (gaps : List Gap)
    (old new : List Bool) : Type 0 where
  pub each : (h : Half) → IsMarked new h ↔ (IsMarked old h ⊎ OfSome P gaps h)
