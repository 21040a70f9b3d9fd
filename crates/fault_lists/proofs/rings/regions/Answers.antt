use Rattle.std.proofs.Common.{rules, ◌≡◌, ℕ, List, sym, subst, ap, ◌∙◌, length}
use Rattle.std.proofs.lemmas.List.{with_items_is}
use Rattle.plane.specs.Rule.Plans.{plan}
use Rattle.fault_lists.specs.declared.kinds.Region.{Region}
use Rattle.fault_lists.specs.Rings.{AreRegions}
use Rattle.fault_lists.specs.Tracing.{AreSlots, AreTracedAll, rings_of, sides_of}
use Rattle.fault_lists.proofs.Traces.{regions_blank, regions_traced}
use Rattle.fault_lists.proofs.rings.regions.Goals as goal

pub returns-then-branch : goal.returns-then-branch
returns-then-branch c =
    let old = c.in_ok-regions.regions in
    let new = c.trace_all.new.regions in
    let items = with_items_is old new (c.trace_all.auto.regions ∙ c.deref_mut.ensures.len) in
    let slots : AreSlots c.args.faces.now c.args.sides.now
    (length c.args.sides.now) c.in-Some.slots.items = search rules in
    let sides : sides_of new ≡ c.args.sides.now = c.in_ok-trace_all.ensures.sides
    ∙ ap (λ (rs : List Region). sides_of rs) c.deref_mut.ensures.value
    ∙ c.in_ok-regions.ensures.sides_are in
    let traced : AreTracedAll (plan c.args.drawing.now) c.args.faces.now c.in-Some.slots.items
    (rings_of new) =
    subst (λ (ns : List ℕ). AreTracedAll (plan c.args.drawing.now) c.args.faces.now ns
    (rings_of new)) c.deref.ensures.value (c.in_ok-trace_all.ensures.traced c.if-branch.true) in
    subst (λ (rs : List Region). AreRegions
    (plan c.args.drawing.now) c.args.faces.now c.args.sides.now rs) (sym items)
    (regions_traced (plan c.args.drawing.now) c.args.faces.now c.args.sides.now
    c.in-Some.slots.items new slots sides traced)

pub returns : goal.returns
returns c =
    let d = plan c.args.drawing.now in
    regions_blank d c.args.faces.now c.args.sides.now _
    (λ go of_faces. elim c.match-branch-2.branch [
      | goal.in-Some+in_ok-regions+in_ok-trace_all+else-branch w ↦
          w.in_ok-trace_all.ensures.wrong w.if-branch.false go
      | goal.in_default w ↦ c.in_ok-slots.ensures.none w.in_default.is of_faces
    ])
    c.in_ok-regions-2.ensures
