-- Labels that are written edge by edge.
use Rattle.std.proofs.Common.{ℕ, ◌<◌, ◌≤◌, List, sym, subst}
use Rattle.certificate.specs.declared.notes.HalfNote.{HalfNote}
use Rattle.plane.specs.Faces.Halves.{Half, edge_of}
use Rattle.tubes.specs.declared.kinds.Facing.{Facing}
use Rattle.tubes.specs.declared.kinds.Owner.{Owner}
use Rattle.area_search.specs.Settled.CaseNotes.{AreNamed, note_of}

-- a note that is not written yet has the face that it had
pub still_known : (points e : ℕ) (facings : List Facing) (edge_owners : List Owner)
    (owners : List ℕ) (old now : List HalfNote)
    → AreNamed points e facings edge_owners owners old now → (h : Half) → e ≤ edge_of h → (n : ℕ)
    → (note_of old h).label < n
    → (note_of now h).label < n
still_known points e facings edge_owners owners old now are h l n k =
    subst (λ (x : HalfNote). x.label < n) (sym (are.rest h l)) k
