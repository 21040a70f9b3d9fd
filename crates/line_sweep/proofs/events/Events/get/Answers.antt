use Rattle.std.proofs.Common.{arith}
use Rattle.straight_predicates.specs.Tables.{table_of}
use Rattle.line_sweep.proofs.BlockMoves.{event_is, number_within}
use Rattle.line_sweep.proofs.events.Events.get.Goals as goal

pub at-requires : goal.at-requires
at-requires c =
    number_within (table_of c.self.inside.table) c.self.inside.blocks.items c.args.self.now
    c.args.number c.self.view_is c.self.invariant.sizes c.requires

pub starting-requires : goal.starting-requires
starting-requires c =
    number_within (table_of c.self.inside.table) c.self.inside.blocks.items c.args.self.now
    c.args.number c.self.view_is c.self.invariant.sizes c.requires

pub index-block-requires : goal.index-block-requires
index-block-requires c =
    let l = number_within (table_of c.self.inside.table) c.self.inside.blocks.items c.args.self.now
    c.args.number c.self.view_is c.self.invariant.sizes c.requires in
    let f = c.self.invariant.sizes in
    omega (arith, l, f)

pub returns : goal.returns
returns c =
    event_is (table_of c.self.inside.table) c.self.inside.blocks.items c.args.self.now c.args.number
    c.index-block.result.now c.at.result c.starting.result.now c.self.view_is
    c.self.invariant.sizes
    (number_within (table_of c.self.inside.table) c.self.inside.blocks.items c.args.self.now
    c.args.number c.self.view_is c.self.invariant.sizes c.requires)
    c.index-block.ensures c.at.ensures c.starting.ensures
