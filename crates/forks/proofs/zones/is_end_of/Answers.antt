use Rattle.forks.proofs.Seen.{either_end, first_end}
use Rattle.forks.proofs.zones.is_end_of.Goals as goal

pub returns-then-are_same : goal.returns-then-are_same
returns-then-are_same c =
    first_end c.args.arc.now c.args.p c.are_same.result c.are_same.ensures c.if-are_same.true

pub returns-else-are_same : goal.returns-else-are_same
returns-else-are_same c =
    either_end c.args.arc.now c.args.p c.are_same.result c.are_same-else-are_same.result
    c.are_same.ensures c.are_same-else-are_same.ensures c.if-are_same.false
