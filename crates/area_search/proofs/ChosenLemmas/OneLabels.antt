-- The rules force the labels: along links they lead to a root, and there the rules name the label.
use Rattle.std.proofs.Common.{◌≡◌, ◌⊎◌, inl, inr, ℕ, zero, suc, ◌<◌, Bool, true, false, pos, List}
use Rattle.std.proofs.Common.{[], length, refl, arith, ap, sym, ◌∙◌, subst}
use Rattle.plane.specs.CurveRuns.TubedRuns as runs
use Rattle.plane.specs.Faces.Cells.{IsSector}
use Rattle.plane.specs.Faces.Classes.{Next}
use Rattle.plane.specs.Faces.Halves.{Half, edge_of, half_of, mark, number, twin}
use Rattle.plane.specs.Rule.Plans.{Plan}
use Rattle.plane.specs.Runs.Moves.{steps_from}
use Rattle.plane.specs.Runs.Steps.{Run}
use Rattle.plane.specs.Runs.Timetables.{Timed}
use Rattle.plane.proofs.FaceLemmas.FaceNumbers.{label_before}
use Rattle.plane.proofs.FaceLemmas.PlacedPoints.{before_less}
use Rattle.plane.proofs.Turning.FanNumbers.{number_below}
use Rattle.plane.proofs.Turning.Numbering.{half_number}
use Rattle.certificate.specs.declared.notes.HalfNote.{HalfNote}
use Rattle.certificate.specs.declared.notes.Link.{Link}
use Rattle.certificate.specs.declared.notes.Link.TheVariants as link
use Rattle.certificate.specs.declared.notes.PointPlace.{PointPlace}
use Rattle.certificate.specs.declared.notes.PointPlace.TheVariants as place
use Rattle.certificate_checker.specs.Rules.{BoundsCell, BoundsTube, IsLinked, IsPointPlaced}
use Rattle.certificate_checker.specs.Rules.{IsRootOf, LeadsBy}
use Rattle.certificate_checker.specs.Subjects.{Subject, bays_of, edge, index_of, labels, moves}
use Rattle.certificate_checker.specs.Subjects.{note_at, outside_label, owned_of, rank, replay_of}
use Rattle.certificate_checker.specs.Subjects.{sector_of, side_label, side_part, within}
use Rattle.certificate_checker.specs.Verdicts.{AllRules, IsTableOf}
use Rattle.certificate_checker.proofs.Proving.{tube_labels, tubed}
use Rattle.area_search.proofs.ChosenLemmas.KeptLabels.{across_keeps, beside_label, border_is}
use Rattle.area_search.proofs.ChosenLemmas.KeptLabels.{next_keeps}
use Rattle.area_search.proofs.ChosenLemmas.OnePositions.{told}

cell_tube : (i curve : ℕ) (inside : Bool) → place.Cell i ≡ place.Tube curve inside → ⊥
cell_tube i curve inside e = cc

one_curve : (i j : ℕ) (a b : Bool) → place.Tube i a ≡ place.Tube j b → i ≡ j
one_curve i j a b e = cc

one_chain : (i j : ℕ) (a b : Bool) → place.Tube i a ≡ place.Tube j b → a ≡ b
one_chain i j a b e = cc

module _ (d : Plan) (table : List Timed) (level : ℕ) (is_table : IsTableOf d level table)
    (ps : List ℕ) (ns ms : List HalfNote) (xs : List PointPlace) where
  abbrev s : Subject
  s = told d table level ps ns xs

  abbrev t : Subject
  t = told d table level ps ms xs

  module _ (a : AllRules s) (b : AllRules t) where
    abbrev m : ℕ
    m = length s.edges

    run : Run m (edge s) (steps_from [] (moves s))
    run = (tubed d s.claims table is_table a).run

    first_labels : runs.AreTubeLabels d (bays_of s) (replay_of s) (labels s) (within s)
        (side_label s true) (side_label s false)
    first_labels = tube_labels d s.claims table is_table a

    second_labels : runs.AreTubeLabels d (bays_of s) (replay_of s) (labels t) (within s)
        (side_label t true) (side_label t false)
    second_labels = tube_labels d t.claims table is_table b

    -- ---- at a root
    chain_label : (x : Bool) (e : ℕ) → e < m → (owned_of s e).part ≡ side_part x
        → outside_label t e ≡ side_label t x (owned_of s e).curve
    chain_label true e l p = second_labels.inner_chain e l p
    chain_label false e l p = second_labels.outer_chain e l p

    at_cell : (h : Half) (j : ℕ) → IsPointPlaced t j → BoundsCell s h j → mark (labels t) h ≡ suc j
    at_cell h j (inl p) c =
        let C : IsSector (replay_of s)
        (sector_of s j) = record {
          strip = p.between.fits;
          index = before_less _
              (index_of s j) p.between.lower p.between.is_lower;
        } in
        sym (beside_label (pos 0) m (edge s) (steps_from [] (moves s)) run
        (labels t) second_labels.matched h (sector_of s j) C c.beside)
        ∙ label_before (labels t) 0 (index_of s j) _ p.between.lower p.between.is_lower
        ∙ p.lower
    at_cell h j (inr p) c = absurd (cell_tube (index_of s j) p.curve p.inside (sym c.cell ∙ p.tube))

    at_tube : (h : Half) (j : ℕ) → edge_of h < m → IsPointPlaced t j → BoundsTube s h j
        → mark (labels t) h ≡ suc j
    at_tube h j l (inl p) c = absurd
        (cell_tube (index_of t j) c.curve c.inside (sym p.cell ∙ c.tube))
    at_tube h j l (inr p) c =
        let e = sym c.tube ∙ p.tube in
        ap (mark (labels t)) c.outside.is
        ∙ chain_label c.inside (edge_of h) l c.outside.part
        ∙ ap (side_label t c.inside)
        (c.outside.of_curve ∙ one_curve c.curve p.curve c.inside p.inside e)
        ∙ ap (λ (x : Bool). side_label t x p.curve) (one_chain c.curve p.curve c.inside p.inside e)
        ∙ p.label

    at_root : (h : Half) → edge_of h < m → IsRootOf s h → mark (labels t) h ≡ mark (labels s) h
    at_root h l (inl f) =
        ap (mark (labels t)) f.is
        ∙ second_labels.within_label (edge_of h) l f.of_tube
        ∙ sym (first_labels.within_label (edge_of h) l f.of_tube)
        ∙ sym (ap (mark (labels s)) f.is)
    at_root h l (inr (inl (z, k))) = border_is (pos 0) m (edge s) (steps_from [] (moves s)) run
        (labels t) second_labels.matched h k ∙ sym z
    at_root h l (inr (inr (j, k, e, inl c))) = at_cell h j (b.placed j k) c ∙ sym e
    at_root h l (inr (inr (j, k, e, inr c))) = at_tube h j l (b.placed j k) c ∙ sym e

    -- ---- along links
    keeps_next : (g h : Half) → Next (replay_of s) g h → mark (labels t) g ≡ mark (labels t) h
    keeps_next g h k = next_keeps (pos 0) m (edge s) (steps_from [] (moves s)) run
        (labels t) second_labels.matched g h k

    by_link : (n : ℕ)
        → ((g : Half) → edge_of g < m → rank s g < n → mark (labels t) g ≡ mark (labels s) g)
        → (h : Half) (k : Link) → edge_of h < m → rank s h < suc n → LeadsBy s h k
        → mark (labels t) h ≡ mark (labels s) h
    by_link n below h link.Root l i x = at_root h l x.1
    by_link n below h link.Next l i (g, y, f) = keeps_next h g y ∙ below g f.fits
        (let z = f.less in omega (arith, i, z)) ∙ f.kept
    by_link n below h link.Prev l i (g, y, f) = sym (keeps_next g h y) ∙ below g f.fits
        (let z = f.less in omega (arith, i, z)) ∙ f.kept
    by_link n below h (link.Across q) l i (y, f) =
        across_keeps (pos 0) m (edge s) (steps_from [] (moves s)) run
        (labels t) second_labels.matched h (half_of q) y
        ∙ below (half_of q) f.fits (let z = f.less in omega (arith, i, z)) ∙ f.kept

    linked : (h : Half) → edge_of h < m → IsLinked s h
    linked h l = subst (IsLinked s) (half_number h) (a.linked (number h) (number_below h m l))

    by_rank : (n : ℕ) (h : Half) → edge_of h < m → rank s h < n
        → mark (labels t) h ≡ mark (labels s) h
    by_rank zero h l i = absurd (omega (arith, i))
    by_rank (suc n) h l i = by_link n (by_rank n) h (note_at s h).link l i (linked h l)

    pub one_label : (h : Half) → edge_of h < m → mark (labels t) h ≡ mark (labels s) h
    one_label h l = by_rank (suc (rank s h)) h l (omega arith)
