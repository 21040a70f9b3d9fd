-- What is written of a settled drawing: the labels of its half-edges, and the places of its points.
use Rattle.std.specs.Prelude.{◌≡◌, ℕ, zero, suc, ◌+◌, ◌^◌, ◌<◌, ◌≤◌, Option, Some, None, List}
use Rattle.std.specs.Prelude.{length, slice_index, slice_index_or, ⊤}
use Rattle.certificate.specs.declared.notes.HalfNote.{HalfNote}
use Rattle.certificate.specs.declared.notes.PointPlace.{PointPlace}
use Rattle.certificate.specs.declared.notes.PointPlace.TheVariants as place
use Rattle.faces.specs.Ranking.{no_note}
use Rattle.plane.specs.Faces.Halves.{Half, edge_of, number, over, under}
use Rattle.tubes.specs.declared.kinds.Facing.{Facing}
use Rattle.tubes.specs.declared.kinds.Facing.TheVariants as facing
use Rattle.tubes.specs.declared.kinds.Owner.{Owner}
use Rattle.area_search.specs.declared.settled.case.Spot.{Spot}
use Rattle.area_search.specs.declared.settled.case.Spot.TheVariants as spot
use Rattle.area_search.specs.Settled.CaseRoots.{facing_in, owner_at}

-- ---- labels
-- one more than the curve, 0 where there is none
abbrev pub tag_of : Option ℕ → ℕ
tag_of None = 0
tag_of (Some c) = suc c

abbrev pub IsCurveNumber : Option ℕ → Type 0
IsCurveNumber None = ⊤
IsCurveNumber (Some c) = c < 2 ^ 30

-- One more than the curve whose tube the half-edge faces from within, and 0 where it faces none.
abbrev pub tag : Facing → ℕ → Half → ℕ
tag facing.Neither c h = 0
tag facing.Below c (under e) = suc c
tag facing.Below c (over e) = 0
tag facing.Above c (under e) = 0
tag facing.Above c (over e) = suc c

abbrev pub tag_at : List Facing → List Owner → Half → ℕ
tag_at facings owners h = tag (facing_in facings (edge_of h)) (owner_at owners (edge_of h)).curve h

-- The label of a half-edge that faces the tube of this tag, in a drawing of so many points: after
-- those of the points that of the tube, else the owner of its face.
abbrev pub label_by : ℕ → ℕ → ℕ → ℕ
label_by points zero owner = owner
label_by points (suc c) owner = suc (points + c)

-- the note with this label
abbrev pub labelled : HalfNote → ℕ → HalfNote
labelled n l = record { label = l; link = n.link; rank = n.rank }

abbrev pub note_of : List HalfNote → Half → HalfNote
note_of notes h = slice_index_or notes (number h) no_note

-- the note of the half-edge, with the label by its tag and the owner of the face that it had as its
-- label
abbrev pub named_by : ℕ → ℕ → List ℕ → HalfNote → HalfNote
named_by points t owners n = labelled n (label_by points t (slice_index owners n.label))

-- The notes of the half-edges of the first n edges have their labels, and no other note changed.
pub record AreNamed (points n : ℕ) (facings : List Facing) (edge_owners : List Owner)
    (owners : List ℕ) (old new : List HalfNote) : Type 0 where
  pub size : length new ≡ length old
  pub named : (h : Half) → edge_of h < n
      → note_of new h ≡ named_by points (tag_at facings edge_owners h) owners (note_of old h)
  pub rest : (h : Half) → n ≤ edge_of h → note_of new h ≡ note_of old h

-- ---- places
-- the place of a point as a certificate has it
abbrev pub spot_place : Spot → PointPlace
spot_place (spot.Cell position lower upper) = place.Cell position
spot_place (spot.InTube c inside) = place.Tube c inside
spot_place (spot.On c) = place.Cell 0
