use Rattle.std.proofs.Common.{arith, ℕ}
use Rattle.plane.specs.Rule.Plans.{plan}
use Rattle.tubes.specs.TubedEdges.{drawn_bays}
use Rattle.level_breaks.proofs.PairBreaks.{breaks_is, fit_at, indexed_at, made_at, placed}
use Rattle.level_breaks.proofs.one_pair.breaks_level.Goals as goal

pub tube_for-requires-clause-fit : goal.tube_for-requires-clause-fit
tube_for-requires-clause-fit c =
    let o = c.requires.order in
    let t = c.requires.there in
    fit_at (plan c.args.drawing.now) c.args.first c.index-curve.result.now _
    (omega (arith, o, t)) c.args.drawing.now.curves_drawn c.index-curve.ensures

pub tube_for-requires-2-clause-fit : goal.tube_for-requires-2-clause-fit
tube_for-requires-2-clause-fit c =
    fit_at (plan c.args.drawing.now) c.args.second c.index-next.result.now _ c.requires.there
    c.args.drawing.now.curves_drawn c.index-next.ensures

pub are_breaking-requires : goal.are_breaking-requires
are_breaking-requires c = λ eg eh.
    let d = plan c.args.drawing.now in
    let l : ℕ → ℕ = λ n. c.args.level in
    let i = c.args.first in
    let j = c.args.second in
    let o = c.requires.order in
    let t = c.requires.there in
    placed d l i j c.requires.order c.requires.there c.grouped-one.result c.grouped-other.result
    (made_at d l i c.index-curve.result.now c.in_ok-tube.tube c.grouped-one.result
    (indexed_at d i c.index-curve.result.now _ (omega (arith, o, t)) c.index-curve.ensures)
    c.in_ok-tube.ensures c.grouped-one.ensures.curve c.grouped-one.ensures.tube
    c.grouped-one.ensures.reach)
    (made_at d l j c.index-next.result.now c.in_ok-next_tube.next_tube c.grouped-other.result
    (indexed_at d j c.index-next.result.now _ c.requires.there c.index-next.ensures)
    c.in_ok-next_tube.ensures c.grouped-other.ensures.curve c.grouped-other.ensures.tube
    c.grouped-other.ensures.reach) (λ n. c.requires.level) c.args.drawing.now.curves_drawn eg eh

pub returns : goal.returns
returns c =
    let d = plan c.args.drawing.now in
    let l : ℕ → ℕ = λ n. c.args.level in
    let i = c.args.first in
    let j = c.args.second in
    let o = c.requires.order in
    let t = c.requires.there in
    breaks_is d l i j c.requires.order c.requires.there c.grouped-one.result c.grouped-other.result
    (made_at d l i c.index-curve.result.now c.in_ok-tube.tube c.grouped-one.result
    (indexed_at d i c.index-curve.result.now _ (omega (arith, o, t)) c.index-curve.ensures)
    c.in_ok-tube.ensures c.grouped-one.ensures.curve c.grouped-one.ensures.tube
    c.grouped-one.ensures.reach)
    (made_at d l j c.index-next.result.now c.in_ok-next_tube.next_tube c.grouped-other.result
    (indexed_at d j c.index-next.result.now _ c.requires.there c.index-next.ensures)
    c.in_ok-next_tube.ensures c.grouped-other.ensures.curve c.grouped-other.ensures.tube
    c.grouped-other.ensures.reach)
    (c.own_edges_of_tubes.ensures.enter d (drawn_bays d l)) c.are_breaking.result
    c.are_breaking.ensures
