use Rattle.std.proofs.Common.{rules, ◌≡◌, arith, false, subst, sym}
use Rattle.line_sweep.specs.Kinds.{gap_of}
use Rattle.line_sweep.specs.declared.kinds.Cell.{Cell}
use Rattle.area_search.specs.Level.CellSides.{IsPaired}
use Rattle.area_search.proofs.LevelLemmas.CellSideLemmas.{all_cells, granted, nth_cell, refused}
use Rattle.area_search.proofs.LevelLemmas.CellSideLemmas.{unfit}
use Rattle.area_search.proofs.level.cell_sides.are_paired.Goals as goal

pub returns-then-not-is_paired : goal.returns-then-not-is_paired
returns-then-not-is_paired c =
    let h : c.is_paired.result ≡ false = search rules in
    refused (λ f. unfit c.is_paired.result c.is_paired.ensures h
    (subst (λ (x : Cell). IsPaired c.args.facings.now c.args.owners.now (gap_of x))
    (sym c.cell-item.is)
    (f _ (nth_cell c.args.cells.now c.loop-cell.cell-index c.cell-item.result
    c.loop-cell-test.true))))

pub returns : goal.returns
returns c =
    let e = c.loop-cell-test.false in
    granted (all_cells c.args.facings.now c.args.owners.now c.args.cells.now
    (λ k x l. c.loop-cell.invariant k x (omega (arith, l, e))))
