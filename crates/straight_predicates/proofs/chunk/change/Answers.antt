use Rattle.straight_predicates.proofs.ChunkParts.{put_values, take_values}
use Rattle.straight_predicates.proofs.chunk.change.Goals as goal

pub returns-then-common-with : goal.returns-then-common-with
returns-then-common-with g c =
    put_values c.args.values.now.items c.args.with.now c.write_over.new.values.items
    c.insert_values.new.values.items c.args.from c.args.count c.min-common.result
    c.requires.within c.min-common.ensures
    c.if-common-with.true c.write_over.ensures.items c.insert_values.ensures.items

pub returns-else-common-with : goal.returns-else-common-with
returns-else-common-with g c =
    take_values c.args.values.now.items c.args.with.now c.write_over.new.values.items
    c.remove_values.new.values.items c.args.from c.args.count c.min-common.result
    c.requires.within c.min-common.ensures
    c.if-common-with.false c.write_over.ensures.items c.remove_values.ensures.items
