use Rattle.std.proofs.Common.{sym, ap, subst, ◌∙◌, ◌+◌, ℕ, List, length, arith}
use Rattle.std.proofs.lemmas.List.{with_items_is}
use Rattle.area_search.specs.Settled.NextSides.{AreNextSides}
use Rattle.area_search.proofs.settled.next_sides.next_sides.Goals as goal

pub loop-half-preserved : goal.loop-half-preserved
loop-half-preserved c =
    let s = c.args.settled.now in
    let mesh = c.args.mesh.now in
    let k = c.loop-half.half in
    let i = c.loop-half.invariant in
    let old = c.loop-half.next in
    let new = c.note_next.new.next in
    let items = with_items_is old new (c.note_next.auto.next ∙ c.deref_mut.ensures.len) in
    record {
      size = ap length items ∙ c.note_next.ensures.size ∙ ap length c.deref_mut.ensures.value
          ∙ i.size;
      noted = subst (λ (ns : List ℕ). AreNextSides s mesh (k + 1) ns) (sym items)
          (c.note_next.ensures.noted
          (subst (λ (ns : List ℕ). AreNextSides s mesh k ns) (sym c.deref_mut.ensures.value)
          i.noted));
    }

pub returns : goal.returns
returns c = λ h s t l a b n.
    let e = c.loop-half-test.false in
    let count = c.edges.ensures.count in
    let pairs = c.edges.ensures.kept.pairs in
    c.loop-half.invariant.noted h s t (omega (arith, l, e, count, pairs)) a b n
