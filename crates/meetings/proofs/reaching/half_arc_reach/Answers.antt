use Rattle.near_pairs.specs.Boxes.{box_of}
use Rattle.meetings.proofs.Reaches.{beyond_holds}
use Rattle.meetings.proofs.reaching.half_arc_reach.Goals as goal

pub returns-in-None : goal.returns-in-None
returns-in-None c =
    c.boxes_hold_curves.ensures.wild c.args.curve.now (box_of c.around.result) c.in-None.ensures
    (beyond_holds (box_of c.around.result) c.args.curve.now.from c.around.ensures.first)
    (beyond_holds (box_of c.around.result) c.args.curve.now.to c.around.ensures.second)
