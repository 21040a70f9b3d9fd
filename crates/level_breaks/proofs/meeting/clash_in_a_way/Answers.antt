use Rattle.level_breaks.proofs.Choices.{either_first, either_second, itself}
use Rattle.level_breaks.proofs.meeting.clash_in_a_way.Goals as goal

pub returns-then-edges_meet : goal.returns-then-edges_meet
returns-then-edges_meet c =
    either_first _ _ _ c.edges_meet.result c.edges_meet.ensures c.if-edges_meet.true (itself _)

pub returns-else-edges_meet : goal.returns-else-edges_meet
returns-else-edges_meet c =
    either_second _ _ _ c.edges_meet.result c.some_ends_enter.result c.edges_meet.ensures
    c.if-edges_meet.false c.some_ends_enter.ensures (itself _)
