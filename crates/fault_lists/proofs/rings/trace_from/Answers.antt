use Rattle.std.proofs.Common.{rules, ◌+◌, ◌<◌, ◌++◌, ◌∷◌, [], sym, subst, ◌∙◌, arith, ap}
use Rattle.std.proofs.Common.{length}
use Rattle.std.proofs.lemmas.List.{get_or_read, length-map}
use Rattle.plane.specs.Rule.Plans.{plan}
use Rattle.fault_lists.specs.declared.kinds.Region.{Region}
use Rattle.plane.specs.Lists.{Has}
use Rattle.fault_lists.specs.FaceLists.{side_number}
use Rattle.fault_lists.specs.Tracing.{AreFollowed, AreTracedTo, IsWay, rings_of, sides_of, slot_of}
use Rattle.fault_lists.proofs.Traces.{not_told, passed_over, ring_added, rings_set, sides_set}
use Rattle.fault_lists.proofs.rings.trace_from.Goals.{then-slot-regions-via-then-slot-regions}
use Rattle.fault_lists.proofs.rings.trace_from.Goals.{then-slot-regions-via-else-slot-regions+then-marks-side_number}
use Rattle.fault_lists.proofs.rings.trace_from.Goals as goal

pub returns-in-None-clause-traced : goal.returns-in-None-clause-traced
returns-in-None-clause-traced c = λ e.
    passed_over (plan c.args.drawing.now) c.args.faces.now
    (sides_of c.args.regions.now) c.args.slots.now c.args.side c.args.marks.now
    (rings_of c.args.regions.now) c.requires.slots c.requires.traced
    (λ n l less is. absurd (c.in-None.ensures n is))

pub returns-then-slot-regions-clause-traced : goal.returns-then-slot-regions-clause-traced
returns-then-slot-regions-clause-traced c = λ e. elim c.then-slot-regions.branch [
  | then-slot-regions-via-then-slot-regions w ↦
      not_told (plan c.args.drawing.now) c.args.faces.now
      (sides_of c.args.regions.now) c.args.slots.now c.args.side c.args.marks.now
      (rings_of c.args.regions.now) c.requires.slots c.requires.traced
      c.in-Some.face c.in-Some.ensures.1 (let t = w.if-slot-regions.true in
      let m = length-map c.args.regions.now (λ (v : Region). v.rings.items) in
      omega (arith, t, m))
  | then-slot-regions-via-else-slot-regions+then-marks-side_number w ↦
      passed_over (plan c.args.drawing.now) c.args.faces.now
      (sides_of c.args.regions.now) c.args.slots.now c.args.side c.args.marks.now
      (rings_of c.args.regions.now) c.requires.slots c.requires.traced
      (λ n l less is. search rules)
]

pub returns-in_ok-add_ring-in-Some-2-clause-sides :
    goal.returns-in_ok-add_ring-in-Some-2-clause-sides
returns-in_ok-add_ring-in-Some-2-clause-sides c =
    let l = c.if-slot-regions.false in
    let at = sym
    (get_or_read c.args.regions.now (slot_of c.args.slots.now c.in-Some.face)
    c.index-regions-slot.result (omega (arith, l)) c.index-regions-slot.is
    c.index-regions-slot.result) in
    sides_set c.args.regions.now (slot_of c.args.slots.now c.in-Some.face)
    c.index-regions-slot.result c.add_ring.new.region at (c.add_ring.ensures.side
    ∙ ap (λ (v : Region). v.side) at)

pub returns-in_ok-add_ring-in-Some-2-clause-traced :
    goal.returns-in_ok-add_ring-in-Some-2-clause-traced
returns-in_ok-add_ring-in-Some-2-clause-traced c = λ e.
    let l = c.if-slot-regions.false in
    let j = slot_of c.args.slots.now c.in-Some.face in
    let r = c.index-regions-slot.result in
    let at = sym
    (get_or_read c.args.regions.now j r (omega (arith, l)) c.index-regions-slot.is r) in
    let rs = rings_of c.args.regions.now in
    let count = length-map c.args.regions.now (λ (v : Region). v.rings.items) in
    let sides = length-map c.args.regions.now (λ (v : Region). v.side) in
    let told : j < length rs = omega (arith, l, count) in
    let round : IsWay (plan c.args.drawing.now) c.args.faces.now c.in-Some.face c.args.side
    c.args.marks.now c.ring_from.new.marks c.in-Some-2.ring c.args.side
    × Has c.args.side c.in-Some-2.ring
    × AreFollowed c.args.faces.now c.ring_from.new.marks = search rules in
    subst (λ more. AreTracedTo (plan c.args.drawing.now) c.args.faces.now c.args.slots.now
    (side_number c.args.side + 1) c.ring_from.new.marks more)
    (sym (rings_set c.args.regions.now j r c.add_ring.new.region c.in-Some-2.ring
    (omega (arith, l)) at (c.in_ok-add_ring-in-Some-2.ensures.rings
    ∙ ap (λ (v : Region). v.rings.items ++ c.in-Some-2.ring ∷ []) at)))
    (ring_added (plan c.args.drawing.now) c.args.faces.now
    (sides_of c.args.regions.now) c.args.slots.now c.args.side c.args.marks.now rs
    c.requires.slots c.requires.traced
    c.in-Some.face c.in-Some.ensures.0 told (count ∙ sym sides) c.in-Some.ensures.1
    c.ring_from.new.marks c.in-Some-2.ring round.0 round.1 round.2)
