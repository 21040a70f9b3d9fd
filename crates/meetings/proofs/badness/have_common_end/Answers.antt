use Rattle.meetings.proofs.Choices.{second_of}
use Rattle.meetings.proofs.badness.have_common_end.Goals as goal

pub returns-else-is_end : goal.returns-else-is_end
returns-else-is_end c =
    second_of _ _ c.is_end.result _ c.is_end.ensures c.if-is_end.false c.is_end-else-is_end.ensures
