use Rattle.straight_predicates.proofs.Joined.{halved}
use Rattle.straight_predicates.proofs.chunks.make_room.Goals as goal

pub returns-clause-joined : goal.returns-clause-joined
returns-clause-joined g c =
    halved c.args.chunks.now.items c.insert.new.self.items c.args.chunk c.index_mut.result.now
    c.halve.new.self c.in_ok-tail.tail c.requires c.index_mut.ensures.value c.in_ok-tail.ensures
    c.in_ok-insert.ensures.items
