use Rattle.std.proofs.Common.{sym, ◌∙◌}
use Rattle.near_pairs.specs.Boxes.{box_of}
use Rattle.level_breaks.specs.Parts.{HoldsPart}
use Rattle.level_breaks.proofs.Choices.{clash}
use Rattle.level_breaks.proofs.PartEdges.{clash_shares}
use Rattle.level_breaks.proofs.PlacedGroups.{second_edged}
use Rattle.level_breaks.proofs.StretchParts.{placed_one}
use Rattle.level_breaks.proofs.meeting.are_clashing.Goals as goal

pub parts_reach-reach-requires-clause-edged : goal.parts_reach-reach-requires-clause-edged
parts_reach-reach-requires-clause-edged c =
    second_edged c.args.one.now c.args.other.now c.requires.groups

pub returns-else-meets : goal.returns-else-meets
returns-else-meets c =
    let g = c.args.one.now in
    let h = c.args.other.now in (
      (λ t. clash (sym c.if-meets.false ∙ t)),
      (λ p. c.meets.ensures.1
          (clash_shares c.boxes_hold_means.ensures.triangle c.boxes_hold_means.ensures.straight g h
          c.args.part c.args.number (box_of c.args.around.now)
          (box_of c.parts_reach-reach.result) c.requires.groups c.requires.parts.first
          c.requires.parts.second p c.requires.around
          (placed_one (HoldsPart h.curve.now h.tube.now (box_of c.parts_reach-reach.result))
          c.args.number c.parts_reach-reach.ensures))),
    )
