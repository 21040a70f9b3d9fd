use Rattle.near_pairs.specs.Boxes.{box_of}
use Rattle.meetings.proofs.Reaches.{beyond_holds}
use Rattle.meetings.proofs.reaching.reach.Goals as goal

pub returns-in-Straight : goal.returns-in-Straight
returns-in-Straight c =
    c.boxes_hold_curves.ensures.straight c.args.curve.now (box_of c.around.result) c.in-Straight.is
    (beyond_holds (box_of c.around.result) c.args.curve.now.from c.around.ensures.first)
    (beyond_holds (box_of c.around.result) c.args.curve.now.to c.around.ensures.second)
