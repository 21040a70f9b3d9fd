use Rattle.level_breaks.proofs.PlacedGroups.{first_edged}
use Rattle.level_breaks.proofs.meeting.GroupTestPartTest.first_reach.Goals as goal

pub parts_reach-requires-clause-edged : goal.parts_reach-requires-clause-edged
parts_reach-requires-clause-edged c =
    first_edged c.args.self.now.one c.args.self.now.other c.requires.can
