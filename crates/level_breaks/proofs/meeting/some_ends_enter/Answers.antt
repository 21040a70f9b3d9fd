use Rattle.level_breaks.proofs.Choices.{either_first, either_second, itself}
use Rattle.level_breaks.proofs.PlacedGroups.{groups_back}
use Rattle.level_breaks.proofs.meeting.some_ends_enter.Goals as goal

pub ends_enter-requires-else-ends_enter-clause-groups : goal.ends_enter-requires-else-ends_enter-clause-groups
ends_enter-requires-else-ends_enter-clause-groups c =
    groups_back c.args.one.now c.args.other.now c.requires.groups

pub returns-then-ends_enter : goal.returns-then-ends_enter
returns-then-ends_enter c =
    either_first _ _ _ c.ends_enter.result c.ends_enter.ensures c.if-ends_enter.true (itself _)

pub returns-else-ends_enter : goal.returns-else-ends_enter
returns-else-ends_enter c =
    either_second _ _ _ c.ends_enter.result c.ends_enter-else-ends_enter.result c.ends_enter.ensures
    c.if-ends_enter.false c.ends_enter-else-ends_enter.ensures (itself _)
