use Rattle.std.proofs.Common.{◌<◌, List, length, sym, subst}
use Rattle.plane.specs.declared.kinds.Curve.{Curve}
use Rattle.tubes.specs.DrawnEdges.{nth_curve}
use Rattle.tubes.specs.TubedEdges.{IsFit}
use Rattle.tubes.proofs.ChainEdges.{fit}
use Rattle.level_breaks.proofs.listing.level_tubes.Goals as goal

pub tube_for-requires-clause-fit : goal.tube_for-requires-clause-fit
tube_for-requires-clause-fit c =
    let d = c.deref-curve-items.ensures.value in
    let i = c.loop-curve.curve-index in
    let l = subst (λ (cs : List Curve). i < length cs) d c.loop-curve-test.true in
    subst (λ (cs : List Curve). IsFit (nth_curve cs i)) (sym d)
    (fit c.args.drawing.now.window _ (c.args.drawing.now.curves_drawn i _ l))
