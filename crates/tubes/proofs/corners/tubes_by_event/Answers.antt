use Rattle.std.proofs.Common.{◌≡◌, ◌∙◌, ◌<◌, ℕ, suc, List, arith, length, rules, slice_index_or}
use Rattle.std.proofs.Common.{subst, sym}
use Rattle.std.proofs.lemmas.List.{with_items_is}
use Rattle.std.specs.Vec.{vec_len}
use Rattle.plane.specs.Rule.Plans.{plan}
use Rattle.plane.specs.declared.kinds.Edge.{Edge}
use Rattle.straight_predicates.specs.EdgeLists.{edge_of}
use Rattle.tubes.specs.Corners.{AreSet, AreTubesByEvent, HasCornerAt}
use Rattle.tubes.proofs.FacingSides.{all_read, curve_within}
use Rattle.tubes.proofs.ForeignCorners.{set_read, tubes_more}
use Rattle.tubes.proofs.corners.tubes_by_event.Goals as goal

pub index-curve-requires : goal.index-curve-requires
index-curve-requires c =
    let l = subst (λ (es : List Edge). c.loop-e.e < length es) c.deref-edge-items.ensures.value
    c.loop-e-test.true in
    let n : vec_len c.args.drawing.now.curves
    ≡ length c.args.drawing.now.curves.items = search rules in
    subst (λ (n : ℕ). c.index-owner.result.now.curve < n) (sym n)
    (curve_within (plan c.args.drawing.now) c.requires.list.0 c.args.list.now c.requires.list.2
    c.loop-e.e l c.index-owner.result.now c.index-owner.ensures)

pub note_corners-requires-clause-number : goal.note_corners-requires-clause-number
note_corners-requires-clause-number c =
    let l = subst (λ (es : List Edge). c.loop-e.e < length es) c.deref-edge-items.ensures.value
    c.loop-e-test.true in
    let n : vec_len c.args.drawing.now.curves
    ≡ length c.args.drawing.now.curves.items = search rules in
    let few = c.args.drawing.now.few_curves in
    let b = curve_within (plan c.args.drawing.now) c.requires.list.0 c.args.list.now
    c.requires.list.2 c.loop-e.e l c.index-owner.result.now c.index-owner.ensures in
    omega (arith, n, few, b)

pub loop-e-preserved : goal.loop-e-preserved
loop-e-preserved c =
    let e = c.loop-e.e in
    let d = plan c.args.drawing.now in
    let list = c.args.list.now in
    let o = c.index-owner.result.now in
    let k = c.index-curve.result.now in
    let low = slice_index_or c.args.low.now e 0 in
    let high = slice_index_or c.args.high.now e 0 in
    let new = c.note_corners.new.tubes in
    let l = subst (λ (es : List Edge). e < length es) c.deref-edge-items.ensures.value
    c.loop-e-test.true in
    let items = with_items_is c.loop-e.tubes new (c.note_corners.auto.tubes
    ∙ c.deref_mut.ensures.len) in
    let s = subst
    (λ (es : List Edge). AreSet (suc o.curve)
    (HasCornerAt o.part k (edge_of es e) low high) c.deref_mut.result.now new)
    c.deref-edge-items.ensures.value c.note_corners.ensures in
    let u = subst
    (λ (old : List ℕ). AreSet (suc o.curve)
    (HasCornerAt o.part k (edge_of list.edges.items e) low high) old new)
    c.deref_mut.ensures.value s in
    let r = set_read d c.requires.list.0 list c.requires.list.2 e l o k low high
    c.loop-e.tubes.items new c.index-owner.ensures c.index-curve.ensures u in
    rw items (tubes_more d list c.args.low.now c.args.high.now c.args.events e c.loop-e.tubes.items
    new c.loop-e.invariant r)

pub returns : goal.returns
returns c =
    let n = all_read c.loop-e.e _ _ c.deref-edge-items.ensures.value c.loop-e.auto.e-end
    c.loop-e-test.false in
    subst (λ (k : ℕ). AreTubesByEvent (plan c.args.drawing.now) c.args.list.now c.args.low.now
    c.args.high.now c.args.events k c.loop-e.tubes.items) n c.loop-e.invariant
