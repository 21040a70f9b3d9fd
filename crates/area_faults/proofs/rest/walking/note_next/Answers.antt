use Rattle.std.proofs.Common.{◌≡◌, ℕ, ◌<◌, arith, length, slice_set, subst}
use Rattle.plane.specs.Rule.Plans.{curve, plan}
use Rattle.fault_lists.specs.FaceLists.{side_number}
use Rattle.area_faults.specs.NextSides.{IsHalfOn}
use Rattle.area_faults.proofs.SidesOfRest.{known_side, number_there, one_followed}
use Rattle.area_faults.proofs.rest.walking.note_next.Goals as goal

pub returns-clause-noted : goal.returns-clause-noted
returns-clause-noted c = λ are.
    let w = c.args.drawing.now in
    let d = plan w in
    let kept = c.args.kept.now in
    let old = c.args.next.now in
    let new = c.note.new.next in
    let side = c.side_of_half-side.result in
    let after = c.side_of_half-after.result in
    let flat : (i : ℕ) → i < length d.curves → (curve d i).from ≡ (curve d i).to → ⊥ =
    λ i k. (w.curves_drawn i _ k).distinct in
    let there = number_there side (length d.curves)
    (known_side d kept c.requires.kept flat side c.args.half c.side_of_half-side.ensures) in
    let room = c.requires.room in
    one_followed d kept c.requires.kept flat c.requires.rising c.args.mesh.now c.args.half side after
    old new c.side_of_half-side.ensures
    (subst (IsHalfOn d kept after) c.next.ensures c.side_of_half-after.ensures)
    (omega (arith, there, room))
    (subst (λ (n : ℕ). new ≡ slice_set old n (side_number after)) c.side_number.ensures
    (subst (λ (n : ℕ). new ≡ slice_set old c.side_number.result n) c.side_number-2.ensures
    c.note.ensures))
    are
