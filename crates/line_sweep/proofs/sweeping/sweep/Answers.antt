use Rattle.std.proofs.Common.{ap, length, subst, sym, ◌∙◌, []}
use Rattle.plane.specs.Runs.Gaps.{closed_gaps}
use Rattle.plane.specs.Runs.Moves.{Fit, steps_from}
use Rattle.plane.specs.Runs.Steps.{Run}
use Rattle.straight_predicates.specs.EdgeLists.{edge_of}
use Rattle.straight_predicates.specs.Tables.{table_of}
use Rattle.line_sweep.specs.Kinds.{gaps_of, moves_at_blocks}
use Rattle.line_sweep.specs.Sweeping.{HasTimetable}
use Rattle.line_sweep.proofs.BlockMoves.{all_have_blocks, no_moves}
use Rattle.line_sweep.proofs.Stepping.{begun, run_at_end, clear_at_end, timed_at_end}
use Rattle.line_sweep.proofs.sweeping.sweep.Goals as goal

pub run-requires-clause-begun : goal.run-requires-clause-begun
run-requires-clause-begun c =
    let b = c.in_ok-state.ensures in
    let none = ap (moves_at_blocks (table_of c.in_ok-table.table)) b.blocks
    ∙ no_moves (table_of c.in_ok-table.table) in
    begun c.args.edges.now (table_of c.in_ok-table.table) _ _ _ _ _ _ c.in_ok-table.ensures b.live
    b.held b.ended none (ap gaps_of b.cells)

pub new-requires-2 : goal.new-requires-2
new-requires-2 c = record {
  sizes = all_have_blocks (table_of c.in_ok-table.table) c.run.new.state.blocks.items
      c.in_ok-run.ensures.done.size;
  endings = c.in_ok-run.ensures.done.endings;
}

pub returns-clause-run : goal.returns-clause-run
returns-clause-run c =
    subst (λ vs. Run (length c.args.edges.now) (edge_of c.args.edges.now) (steps_from [] vs))
    (sym c.new-2.ensures)
    (run_at_end c.args.edges.now (table_of c.in_ok-table.table) _ _ _ _ _ _
    c.in_ok-run.ensures.done)

pub returns-clause-fit : goal.returns-clause-fit
returns-clause-fit c = subst (Fit []) (sym c.new-2.ensures) c.in_ok-run.ensures.done.fit

pub returns-clause-cells : goal.returns-clause-cells
returns-clause-cells c = c.in_ok-run.ensures.done.closed ∙ ap closed_gaps (sym c.new-2.ensures)

pub returns-clause-timed : goal.returns-clause-timed
returns-clause-timed c =
    subst (HasTimetable c.args.edges.now) (sym c.new-2.ensures)
    (timed_at_end c.args.edges.now (table_of c.in_ok-table.table) _ _ _ _ _ _ c.in_ok-table.ensures
    c.in_ok-run.ensures.done)

pub returns-clause-clear : goal.returns-clause-clear
returns-clause-clear c =
    clear_at_end c.args.edges.now (table_of c.in_ok-table.table) _ _ _ _ _ _
    c.in_ok-run.ensures.done
