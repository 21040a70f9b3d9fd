use Rattle.plane.specs.Rule.Plans.{plan}
use Rattle.area_search.proofs.UnsettledLemmas.MarkedPoints.{all_decoded, decoded_next, none_decoded}
use Rattle.area_search.proofs.unsettled.marked_points.decoded.Goals as goal

pub loop-code-init : goal.loop-code-init
loop-code-init c =
    none_decoded (plan c.args.drawing.now) c.args.numbers.now c.args.codes.now c.in_ok-ons.ons.items
    c.in_ok-ons.ensures.items

pub loop-code-preserved : goal.loop-code-preserved
loop-code-preserved c =
    decoded_next (plan c.args.drawing.now) c.args.numbers.now c.args.codes.now
    c.loop-code.code-index c.loop-code.ons.items c.push.new.self.items c.on_of.result
    c.in_ok-push.ensures.items c.on_of.ensures c.loop-code.invariant

pub returns : goal.returns
returns c = all_decoded (plan c.args.drawing.now) c.args.numbers.now c.args.codes.now
    c.loop-code.code-index c.loop-code.ons.items c.loop-code-test.false
    c.loop-code.auto.code-index-end c.loop-code.invariant
