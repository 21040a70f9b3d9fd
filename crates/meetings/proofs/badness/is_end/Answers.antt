use Rattle.meetings.proofs.Choices.{first_of, second_of}
use Rattle.meetings.proofs.badness.is_end.Goals as goal

pub returns-then-are_same : goal.returns-then-are_same
returns-then-are_same c = first_of _ _ _ c.are_same.ensures c.if-are_same.true

pub returns-else-are_same : goal.returns-else-are_same
returns-else-are_same c =
    second_of _ _ c.are_same.result _ c.are_same.ensures c.if-are_same.false
    c.are_same-else-are_same.ensures
