use Rattle.std.proofs.Common.{rules, ◌+◌, ◌++◌, ◌∷◌, [], List, true, sym, subst, ◌∙◌, take, get_or}
use Rattle.std.proofs.lemmas.List.{get_or_default, take_more}
use Rattle.fault_lists.specs.declared.kinds.Region.{Region}
use Rattle.fault_lists.specs.declared.kinds.SideAt.{SideAt}
use Rattle.fault_lists.specs.Tracing.{AreBlank}
use Rattle.fault_lists.proofs.Traces.{blank_push}
use Rattle.fault_lists.proofs.rings.without_rings.Goals as goal

pub loop-side-preserved : goal.loop-side-preserved
loop-side-preserved c =
    let k = c.loop-side.side-index in
    let no_side : SideAt = record { curve = 0; left = true } in
    let s : SideAt = get_or c.args.sides.now k no_side in
    let r : Region = c.without_ring.result in
    let items : List Region = c.loop-side.regions.items ++ r ∷ [] in
    subst (λ (rs : List Region). AreBlank (take (k + 1) c.args.sides.now) rs)
    (sym c.in_ok-push.ensures.items)
    (subst (λ (ss : List SideAt). AreBlank ss items)
    (sym (take_more c.args.sides.now k no_side c.loop-side-test.true))
    (blank_push (take k c.args.sides.now) c.loop-side.regions.items s r c.loop-side.invariant
    (c.without_ring.ensures.side
    ∙ get_or_default c.args.sides.now k _ no_side c.loop-side-test.true)
    c.without_ring.ensures.none))
