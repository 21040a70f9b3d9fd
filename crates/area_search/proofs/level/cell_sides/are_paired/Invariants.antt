use Rattle.std.proofs.Common.{ℕ, ◌<◌, get_or}
use Rattle.line_sweep.specs.Kinds.{gap_of}
use Rattle.line_sweep.specs.declared.kinds.Cell.{Cell}
use Rattle.area_search.specs.Level.CellSides.{IsPaired}
use Rattle.area_search.proofs.level.cell_sides.are_paired.Given as goal

abbrev pub invariant-loop-cell : goal.invariant-loop-cell
invariant-loop-cell l = (k : ℕ) (x : Cell) → k < l.cell-index
    → IsPaired l.facings l.owners (gap_of (get_or l.cells k x))
