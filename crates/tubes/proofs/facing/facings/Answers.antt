use Rattle.std.proofs.Common.{◌≡◌, ◌∙◌, ◌<◌, ◌≤◌, ◌+◌, ℕ, List, refl, rules, ap, arith, length}
use Rattle.std.proofs.Common.{slice_index_or, subst, sym}
use Rattle.std.specs.Vec.{vec_len}
use Rattle.plane.specs.Rule.Plans.{plan}
use Rattle.plane.specs.declared.kinds.Edge.{Edge}
use Rattle.straight_predicates.proofs.Orders.{by_lt}
use Rattle.straight_predicates.specs.EdgeLists.{edge_of}
use Rattle.tubes.specs.Facings.{HasSmallTube, listed_side, side_of}
use Rattle.tubes.specs.declared.kinds.Facing.TheVariants as facing
use Rattle.tubes.proofs.FacingSides.{all_read, curve_within, facings_are, side_read, small_read}
use Rattle.tubes.proofs.facing.facings.Goals as goal

pub index-curve-requires : goal.index-curve-requires
index-curve-requires c =
    let l = subst (λ (es : List Edge). c.loop-e.e < length es) c.deref-edge-items.ensures.value
    c.loop-e-test.true in
    let n : vec_len c.args.drawing.now.curves
    ≡ length c.args.drawing.now.curves.items = search rules in
    subst (λ (n : ℕ). c.index-owner.result.now.curve < n) (sym n)
    (curve_within (plan c.args.drawing.now) c.requires.0 c.args.list.now c.requires.2 c.loop-e.e
    l c.index-owner.result.now c.index-owner.ensures)

pub facing-requires : goal.facing-requires
facing-requires c =
    let l = subst (λ (es : List Edge). c.loop-e.e < length es) c.deref-edge-items.ensures.value
    c.loop-e-test.true in
    subst (λ (es : List Edge). HasSmallTube c.index-owner.result.now.part c.index-curve.result.now
    (edge_of es c.loop-e.e)) (sym c.deref-edge-items.ensures.value)
    (small_read (plan c.args.drawing.now) c.requires.0 c.args.list.now c.requires.2 c.loop-e.e l
    c.index-owner.result.now c.index-curve.result.now c.index-owner.ensures
    c.index-curve.ensures)

pub loop-e-preserved : goal.loop-e-preserved
loop-e-preserved c =
    let e = c.loop-e.e in
    let s = c.loop-e.invariant.size in
    let l = subst (λ (es : List Edge). e < length es) c.deref-edge-items.ensures.value
    c.loop-e-test.true in
    let here = side_read (plan c.args.drawing.now) c.requires.0 c.args.list.now c.requires.2 e l
    c.index-owner.result.now c.index-curve.result.now c.index-owner.ensures
    c.index-curve.ensures in
    let told = c.facing.ensures
    ∙ ap (λ (es : List Edge). side_of c.index-owner.result.now.part c.index-curve.result.now
    (edge_of es e)) c.deref-edge-items.ensures.value ∙ here in
    let by = c.in_ok-push.ensures.by_index in
    let v : vec_len c.loop-e.facings ≡ length c.loop-e.facings.items = search rules in
    let w : vec_len c.push.new.self ≡ length c.push.new.self.items = search rules in
    record {
      size = sym w ∙ c.in_ok-push.ensures.len ∙ ap (λ (n : ℕ). n + 1) (v ∙ s);
      each = λ k m. by_lt k e
          (λ (b : k < e). by.0 k facing.Neither (subst (λ (n : ℕ). k < n) (sym (v ∙ s)) b)
          ∙ c.loop-e.invariant.each k b)
          (λ (b : e ≤ k).
          let n : k ≡ e = omega (arith, b, m) in
          ap (λ (i : ℕ). slice_index_or c.push.new.self.items i facing.Neither) (n ∙ sym (v ∙ s))
          ∙ by.1 facing.Neither refl ∙ told
          ∙ ap (λ (i : ℕ). listed_side (plan c.args.drawing.now) c.args.list.now i) (sym n));
    }

pub returns : goal.returns
returns c level t =
    let n = all_read c.loop-e.e _ _ c.deref-edge-items.ensures.value c.loop-e.auto.e-end
    c.loop-e-test.false in
    facings_are (plan c.args.drawing.now) level c.args.list.now c.loop-e.facings.items t
    (c.loop-e.invariant.size ∙ n)
    (λ k l. c.loop-e.invariant.each k (subst (λ (m : ℕ). k < m) (sym n) l))
