use Rattle.std.proofs.Common.{arith, ap, refl, sym, ◌∙◌, ◌+◌, ◌++◌, ◌∷◌, [], ℕ, List, length, suc}
use Rattle.std.proofs.Common.{drop, subst, take}
use Rattle.plane.specs.Runs.Gaps.{gaps_between}
use Rattle.straight_predicates.specs.Tables.{table_of}
use Rattle.line_sweep.specs.Held.{IsHeld, gaps_held}
use Rattle.line_sweep.specs.Kinds.{gaps_of, moves_at_blocks}
use Rattle.line_sweep.proofs.BlockMoves.{moves_more}
use Rattle.line_sweep.proofs.CellEdges.{lower_known, starting_known, upper_known}
use Rattle.line_sweep.proofs.NextEvent.{block_few, keys_size, live_known}
use Rattle.line_sweep.proofs.Stepping.{step_next}
use Rattle.line_sweep.proofs.sweeping.step.Goals as goal

pub beside_block-beside-requires-clause-few : goal.beside_block-beside-requires-clause-few
beside_block-beside-requires-clause-few c =
    block_few c.args.edges.now (table_of c.args.table.now) c.args.event _ _ _ _ _ _
    c.requires.sorted c.requires.table c.requires.event c.requires.swept c.in_ok-block.block.from
    c.in_ok-block.block.count c.in_ok-block.ensures.block c.requires.few

pub move_cells-requires-clause-few : goal.move_cells-requires-clause-few
move_cells-requires-clause-few c =
    block_few c.args.edges.now (table_of c.args.table.now) c.args.event _ _ _ _ _ _
    c.requires.sorted c.requires.table c.requires.event c.requires.swept c.in_ok-block.block.from
    c.in_ok-block.block.count c.in_ok-block.ensures.block c.requires.few

pub move_cells-requires-clause-place : goal.move_cells-requires-clause-place
move_cells-requires-clause-place c =
    let s = keys_size c.args.edges.now (table_of c.args.table.now) c.args.event _ _ _ _ _ _
    c.requires.sorted c.requires.table c.requires.event c.requires.swept in
    let w = c.in_ok-block.ensures.block.within in
    omega (arith, s, w)

pub move_cells-requires-clause-held : goal.move_cells-requires-clause-held
move_cells-requires-clause-held c = record {
  gaps = refl;
  once = c.requires.swept.held.once;
  all = c.requires.swept.held.all;
  count = c.requires.swept.held.count;
}

pub move_cells-requires-clause-lower : goal.move_cells-requires-clause-lower
move_cells-requires-clause-lower c =
    lower_known (length c.args.edges.now) c.requires.few c.args.state.now.live
    c.in_ok-block.block.from c.beside_block-beside.result.lower
    (live_known c.args.edges.now (table_of c.args.table.now) c.args.event _ _ _ _ _ _
    c.requires.sorted c.requires.table c.requires.event c.requires.swept)
    c.beside_block-beside.ensures.lower

pub move_cells-requires-clause-upper : goal.move_cells-requires-clause-upper
move_cells-requires-clause-upper c =
    upper_known (length c.args.edges.now) c.requires.few c.args.state.now.live _
    c.beside_block-beside.result.upper
    (live_known c.args.edges.now (table_of c.args.table.now) c.args.event _ _ _ _ _ _
    c.requires.sorted c.requires.table c.requires.event c.requires.swept)
    c.beside_block-beside.ensures.upper

pub move_cells-requires-clause-starting : goal.move_cells-requires-clause-starting
move_cells-requires-clause-starting c =
    starting_known c.args.edges.now (table_of c.args.table.now) c.args.event c.requires.few
    c.requires.table c.requires.event c.starting-starting.result.now c.starting-starting.ensures

pub move_edges-requires-clause-few : goal.move_edges-requires-clause-few
move_edges-requires-clause-few c =
    block_few c.args.edges.now (table_of c.args.table.now) c.args.event _ _ _ _ _ _
    c.requires.sorted c.requires.table c.requires.event c.requires.swept c.in_ok-block.block.from
    c.in_ok-block.block.count c.in_ok-block.ensures.block c.requires.few

pub returns-clause-done : goal.returns-clause-done
returns-clause-done c =
    let cells = c.in_ok-move_cells.ensures in
    let edges = c.in_ok-move_edges.ensures in
    let table = table_of c.args.table.now in
    let block = c.in_ok-block.block in
    let starting = c.starting-starting.result.now in
    step_next c.args.edges.now table c.args.event _ _ _ _ _ _ c.requires.sorted c.requires.table
    c.requires.event c.requires.swept block.from block.count c.in_ok-block.ensures.block
    c.beside_block-beside.result.lower c.beside_block-beside.result.upper
    c.beside_block-beside.ensures c.in_ok-test_at.ensures.fine
    c.move_edges.new.self.live c.move_edges.new.self.keys c.move_edges.new.self.ended.items
    c.move_edges.new.self.open_cells starting
    (moves_at_blocks table c.move_edges.new.self.blocks.items)
    (gaps_of c.move_edges.new.self.cells.items) c.starting-starting.ensures
    (edges.live ∙ ap (λ (es : List ℕ). take block.from es
    ++ (starting ++ drop (block.from + block.count) es)) cells.live)
    (subst (λ ks. IsHeld c.move_edges.new.self.open_cells ks
    (take block.from (gaps_held c.args.state.now.open_cells c.args.state.now.keys)
    ++ (gaps_between c.args.event c.beside_block-beside.result.lower starting
    c.beside_block-beside.result.upper
    ++ drop (suc (block.from + block.count))
    (gaps_held c.args.state.now.open_cells c.args.state.now.keys)))) (sym edges.keys)
    (subst (λ o. IsHeld o c.move_cells.new.self.keys
    (take block.from (gaps_held c.args.state.now.open_cells c.args.state.now.keys)
    ++ (gaps_between c.args.event c.beside_block-beside.result.lower starting
    c.beside_block-beside.result.upper
    ++ drop (suc (block.from + block.count))
    (gaps_held c.args.state.now.open_cells c.args.state.now.keys))))
    (sym edges.open_cells) cells.held))
    (edges.ended
    ∙ ap (λ v. v.items ++ take block.count (drop block.from c.move_cells.new.self.live)) cells.ended
    ∙ ap (λ (es : List ℕ). c.args.state.now.ended.items ++ take block.count (drop block.from es))
    cells.live)
    (ap (λ v. gaps_of v.items) edges.cells ∙ cells.closed)
    (ap (moves_at_blocks table) (edges.blocks
    ∙ ap (λ v. v.items ++ record {
      position = block.from;
      count = block.count;
    } ∷ []) cells.blocks)
    ∙ moves_more table c.args.state.now.blocks.items c.args.event (record {
      position = block.from;
      count = block.count;
    }) c.requires.swept.size c.requires.event)
