use Rattle.std.proofs.Common.{sym, subst}
use Rattle.straight_predicates.specs.EdgeLists.{edge_of, IsCloseToAll}
use Rattle.straight_predicates.specs.Tables.{table_of}
use Rattle.line_sweep.specs.Blocks.{IsBlock, IsThrough}
use Rattle.line_sweep.proofs.EventEdges.{close_event}
use Rattle.line_sweep.proofs.NextEvent.{live_known, through_is_bad}
use Rattle.line_sweep.proofs.sweeping.block_at.Goals as goal

pub find_block-requires-clause-known : goal.find_block-requires-clause-known
find_block-requires-clause-known c =
    live_known c.args.edges.now (table_of c.args.table.now) c.args.event _ _ _ _ _ _
    c.requires.sorted
    c.requires.table c.requires.event c.requires.swept

pub find_block-requires-clause-close : goal.find_block-requires-clause-close
find_block-requires-clause-close c =
    subst (IsCloseToAll c.args.edges.now) (sym c.at-at.ensures)
    (close_event c.args.edges.now (table_of c.args.table.now) c.args.event c.requires.table
    c.requires.event c.requires.close)

pub returns-in-Ok-clause-block : goal.returns-in-Ok-clause-block
returns-in-Ok-clause-block c =
    subst (λ p. IsBlock (edge_of c.args.edges.now) c.args.state.now.live p c.in-Ok.block.from
    c.in-Ok.block.count) c.at-at.ensures c.in-Ok.ensures.block

pub returns-in-Err-clause-refused : goal.returns-in-Err-clause-refused
returns-in-Err-clause-refused c =
    through_is_bad c.args.edges.now (table_of c.args.table.now) c.args.event _ _ _ _ _ _
    c.requires.sorted c.requires.table c.requires.event c.requires.swept c.in-Err.edge
    c.edge_of_event.result
    (subst (λ p. IsThrough (edge_of c.args.edges.now) c.args.state.now.live p c.in-Err.edge)
    c.at-at.ensures c.in-Err.ensures.through)
    c.edge_of_event.ensures.known c.edge_of_event.ensures.end
