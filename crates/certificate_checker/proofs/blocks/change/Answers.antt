use Rattle.straight_predicates.proofs.ChunkParts.{put_values, take_values}
use Rattle.certificate_checker.proofs.blocks.change.Goals as goal

pub returns-then-common-with-clause-items : goal.returns-then-common-with-clause-items
returns-then-common-with-clause-items c =
    put_values c.args.edges.now.items c.args.with.now c.write_over.new.edges.items
    c.insert_edges.new.edges.items c.args.from c.args.count c.min-common.result
    c.requires.within c.min-common.ensures
    c.if-common-with.true c.write_over.ensures.items c.insert_edges.ensures.items

pub returns-else-common-with-clause-items : goal.returns-else-common-with-clause-items
returns-else-common-with-clause-items c =
    take_values c.args.edges.now.items c.args.with.now c.write_over.new.edges.items
    c.remove_edges.new.edges.items c.args.from c.args.count c.min-common.result
    c.requires.within c.min-common.ensures
    c.if-common-with.false c.write_over.ensures.items c.remove_edges.ensures.items
