use Rattle.forks.proofs.Seen.{shared, unequal}
use Rattle.forks.proofs.zones.shared_end.Goals as goal

pub returns-else-from-to : goal.returns-else-from-to
returns-else-from-to c =
    shared c.args.arc.now c.args.straight.now c.is_end_of-from.result c.is_end_of-to.result
    c.is_end_of-from.ensures c.is_end_of-to.ensures
    (unequal c.is_end_of-from.result c.is_end_of-to.result c.if-from-to.false)
