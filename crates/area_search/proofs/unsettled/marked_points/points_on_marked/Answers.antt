use Rattle.std.proofs.Common.{◌^◌, ◌<◌, arith, length}
use Rattle.plane.specs.Rule.Plans.{plan}
use Rattle.area_search.proofs.UnsettledLemmas.MarkedPoints.{lent_many_on, lent_pairs_on}
use Rattle.area_search.proofs.unsettled.marked_points.points_on_marked.Goals as goal

pub returns-clause-some : goal.returns-clause-some
returns-clause-some c =
    lent_pairs_on (plan c.args.drawing.now) c.args.marked.now c.in_ok-numbers.numbers.items
    c.deref.result.now c.deref-2.result.now c.deref-3.result.now c.in_ok-pairs.pairs
    c.in_ok-ons.ons.items c.requires c.deref.ensures.value c.deref-2.ensures.value
    c.deref-3.ensures.value
    c.in_ok-numbers.ensures c.in_ok-pairs.ensures.pairs c.in_ok-pairs.ensures.few
    c.if-not-pairs.false c.in_ok-ons.ensures

pub returns-then-not-pairs-clause-none : goal.returns-then-not-pairs-clause-none
returns-then-not-pairs-clause-none c = λ e.
    let w = c.args.drawing.now in
    let few = w.few_curves in
    let small : length w.curves.items < 2 ^ 32 = omega (arith, few) in
    lent_many_on (plan w) c.args.marked.now c.in_ok-numbers.numbers.items c.deref.result.now
    c.in_ok-pairs.pairs c.args.most c.requires c.deref.ensures.value c.in_ok-numbers.ensures
    c.in_ok-pairs.ensures.pairs c.in_ok-pairs.ensures.few small
    (c.in_ok-pairs.ensures.many c.if-not-pairs.true)
