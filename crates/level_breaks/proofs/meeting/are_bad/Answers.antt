use Rattle.std.proofs.Common.{sym, ◌∙◌}
use Rattle.near_pairs.specs.Boxes.{box_of}
use Rattle.level_breaks.proofs.BoxPoints.{bad_shares}
use Rattle.level_breaks.proofs.Choices.{clash}
use Rattle.level_breaks.proofs.meeting.are_bad.Goals as goal

pub returns-else-meets : goal.returns-else-meets
returns-else-meets c = (
  (λ t. clash (sym c.if-meets.false ∙ t)),
  (λ h. c.meets.ensures.1
      (bad_shares c.boxes_hold_means.ensures.straight c.args.edge.now c.args.other.now
      (box_of c.edge_reach.result) (box_of c.edge_reach-2.result) c.edge_reach.ensures.low
      c.edge_reach.ensures.high c.edge_reach-2.ensures.low c.edge_reach-2.ensures.high h)),
)
