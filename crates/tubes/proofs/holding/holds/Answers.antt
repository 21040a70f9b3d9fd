use Rattle.std.proofs.Common.{◌↔◌, IsTrue, List, subst, sym}
use Rattle.plane.specs.Forms.Vectors.{point}
use Rattle.plane.specs.declared.kinds.Point.{Point}
use Rattle.tubes.specs.Holding.{AreTurnable, InSomeBay, InSomeGap}
use Rattle.tubes.proofs.TubeTriangles.{held_by_bay, held_by_gap, made_turnable}
use Rattle.tubes.proofs.holding.holds.Goals as goal

pub is_in_bays-requires : goal.is_in_bays-requires
is_in_bays-requires c =
    let t = c.args.tube.now in
    let m = made_turnable t c.args.at c.requires.made c.requires.inner c.requires.outer in
    subst (λ (vs : List Point). AreTurnable vs c.deref-2.result.now c.args.at)
    (sym c.deref.ensures.value)
    (subst (λ (os : List Point). AreTurnable t.inner.items os c.args.at)
    (sym c.deref-2.ensures.value) m)

pub is_in_gaps-requires : goal.is_in_gaps-requires
is_in_gaps-requires c =
    let t = c.args.tube.now in
    let m = made_turnable t c.args.at c.requires.made c.requires.inner c.requires.outer in
    subst (λ (vs : List Point). AreTurnable vs c.deref-else-is_in_bays-2.result.now c.args.at)
    (sym c.deref-else-is_in_bays.ensures.value)
    (subst (λ (os : List Point). AreTurnable t.inner.items os c.args.at)
    (sym c.deref-else-is_in_bays-2.ensures.value) m)

pub returns-then-is_in_bays : goal.returns-then-is_in_bays
returns-then-is_in_bays c =
    let t = c.args.tube.now in
    let m = made_turnable t c.args.at c.requires.made c.requires.inner c.requires.outer in
    let e = subst (λ (vs : List Point). IsTrue c.is_in_bays.result
    ↔ InSomeBay vs c.deref-2.result.now (point c.args.at)) c.deref.ensures.value
    c.is_in_bays.ensures in
    let f = subst (λ (os : List Point). IsTrue c.is_in_bays.result
    ↔ InSomeBay t.inner.items os (point c.args.at)) c.deref-2.ensures.value e in
    held_by_bay t.inner.items t.outer.items
    (point c.args.at) c.is_in_bays.result m.sizes f c.if-is_in_bays.true

pub returns-else-is_in_bays : goal.returns-else-is_in_bays
returns-else-is_in_bays c =
    let t = c.args.tube.now in
    let m = made_turnable t c.args.at c.requires.made c.requires.inner c.requires.outer in
    let e = subst (λ (vs : List Point). IsTrue c.is_in_bays.result
    ↔ InSomeBay vs c.deref-2.result.now (point c.args.at)) c.deref.ensures.value
    c.is_in_bays.ensures in
    let f = subst (λ (os : List Point). IsTrue c.is_in_bays.result
    ↔ InSomeBay t.inner.items os (point c.args.at)) c.deref-2.ensures.value e in
    let g = subst (λ (vs : List Point). IsTrue c.is_in_gaps.result
    ↔ InSomeGap vs c.deref-else-is_in_bays-2.result.now (point c.args.at))
    c.deref-else-is_in_bays.ensures.value c.is_in_gaps.ensures in
    let k = subst (λ (os : List Point). IsTrue c.is_in_gaps.result
    ↔ InSomeGap t.inner.items os (point c.args.at)) c.deref-else-is_in_bays-2.ensures.value g in
    held_by_gap t.inner.items t.outer.items
    (point c.args.at) c.is_in_bays.result c.is_in_gaps.result m.sizes f c.if-is_in_bays.false k
