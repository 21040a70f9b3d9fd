use Rattle.std.proofs.Common.{length, ap, subst, ◌∙◌}
use Rattle.plane.specs.Rule.Plans.{plan}
use Rattle.forks.specs.Zones.{near_end}
use Rattle.forks.proofs.LeastBends.{IsBestTo, best_more, best_none, best_some, curve_is, known_at}
use Rattle.forks.proofs.LeastBends.{no_end, one_default}
use Rattle.forks.proofs.bends.bend_at.Goals as goal

pub lesser-best-requires-clause-arc : goal.lesser-best-requires-clause-arc
lesser-best-requires-clause-arc c =
    known_at (length c.args.drawing.now.curves.items) c.args.ends.now c.block-end-items.result.now
    c.loop-end.end-index c.requires.ends.known c.block-end-items.ensures.known c.loop-end-test.true

pub loop-end-preserved : goal.loop-end-preserved
loop-end-preserved c =
    best_more _ (plan c.args.drawing.now) c.args.number c.args.at_from c.block-end-items.result.now
    c.loop-end.end-index c.loop-end.best c.lesser-best.result _ c.loop-end.invariant
    c.loop-end-test.true
    (λ e. one_default c.block-end-items.result.now c.loop-end.end-index e no_end
    c.loop-end-test.true) c.lesser-best.ensures

pub returns-in-Some : goal.returns-in-Some
returns-in-Some c =
    let h = c.loop-end.invariant in
    let d = plan c.args.drawing.now in
    best_some c.args.drawing.now.tolerance d c.args.ends.now c.requires.ends c.args.number
    c.args.at_from c.block-end-items.result.now c.end_at-near.result
    (c.end_at-near.ensures
    ∙ ap (near_end c.args.at_from)
    (curve_is d c.args.number c.index.result.now c.requires.there c.index.ensures))
    c.block-end-items.ensures.whole c.loop-end.end-index c.loop-end-test.false c.in-Some.bend
    (subst (IsBestTo c.args.drawing.now.tolerance d c.args.number c.args.at_from
    c.block-end-items.result.now c.loop-end.end-index) c.in-Some.is h)

pub returns-in-None : goal.returns-in-None
returns-in-None c =
    let h = c.loop-end.invariant in
    let d = plan c.args.drawing.now in
    best_none c.args.drawing.now.tolerance d c.args.ends.now c.requires.ends c.args.number
    c.args.at_from c.block-end-items.result.now c.end_at-near.result
    (c.end_at-near.ensures
    ∙ ap (near_end c.args.at_from)
    (curve_is d c.args.number c.index.result.now c.requires.there c.index.ensures))
    c.block-end-items.ensures.whole c.loop-end.end-index c.loop-end-test.false
    (subst (IsBestTo c.args.drawing.now.tolerance d c.args.number c.args.at_from
    c.block-end-items.result.now c.loop-end.end-index) c.in-None.is h)
