use Rattle.std.proofs.Common.{ℕ, ◌+◌, List, get_or, length, sym, subst, ◌∙◌, true}
use Rattle.std.proofs.lemmas.List.{get_or_default, with_items_is}
use Rattle.fault_lists.specs.declared.kinds.SideAt.{SideAt}
use Rattle.fault_lists.specs.Tracing.{AreSlots, HasNoFreeSlot, IsSlotTaken}
use Rattle.fault_lists.proofs.SlotLists.{not_of_faces, slot_more}
use Rattle.fault_lists.proofs.slots.slots_of.Goals as goal

pub returns-then-not-take_slot-clause-none : goal.returns-then-not-take_slot-clause-none
returns-then-not-take_slot-clause-none c = λ e.
    let f = c.args.faces.now in
    let sides = c.args.sides.now in
    let k = c.loop-place.place in
    let no_side : SideAt = record { curve = 0; left = true } in
    let m = length sides in
    let refused = subst (λ (s : SideAt). HasNoFreeSlot f s m c.deref_mut.result.now)
    (get_or_default sides k _ no_side c.loop-place-test.true)
    (c.take_slot.ensures.refused c.if-not-take_slot.true) in
    not_of_faces f sides k c.loop-place.slots.items c.loop-place.invariant c.loop-place-test.true
    (subst (λ (ns : List ℕ). HasNoFreeSlot f (get_or sides k no_side) m ns)
    c.deref_mut.ensures.value refused)

pub loop-place-preserved : goal.loop-place-preserved
loop-place-preserved c =
    let f = c.args.faces.now in
    let sides = c.args.sides.now in
    let k = c.loop-place.place in
    let no_side : SideAt = record { curve = 0; left = true } in
    let m = length sides in
    let old = c.loop-place.slots in
    let new = c.take_slot.new.slots in
    let taken = subst (λ (s : SideAt). IsSlotTaken f s k m c.deref_mut.result.now new)
    (get_or_default sides k _ no_side c.loop-place-test.true)
    (c.take_slot.ensures.taken c.if-not-take_slot.false) in
    let items = with_items_is old new (c.take_slot.auto.slots ∙ c.deref_mut.ensures.len) in
    subst (λ (ns : List ℕ). AreSlots f sides (k + 1) ns) (sym items)
    (slot_more f sides k old.items new c.loop-place.invariant c.loop-place-test.true
    (subst (λ (ns : List ℕ). IsSlotTaken f (get_or sides k no_side) k m ns new)
    c.deref_mut.ensures.value taken))
