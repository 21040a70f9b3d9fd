use Rattle.plane.specs.Rule.Plans.{plan}
use Rattle.forks.proofs.HeldParts.{box_more}
use Rattle.forks.proofs.held.boxes.Goals as goal

pub loop-number-preserved : goal.loop-number-preserved
loop-number-preserved c =
    box_more (plan c.args.drawing.now) c.args.parts.now c.loop-number.number
    c.loop-number.boxes.items c.push.new.self.items c.box_at.result c.loop-number.invariant
    c.in_ok-push.ensures.items c.box_at.ensures
