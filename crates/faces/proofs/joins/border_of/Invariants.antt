use Rattle.std.proofs.Common.{◌≡◌, take}
use Rattle.std.specs.List.{flat_map}
use Rattle.line_sweep.specs.Kinds.{gaps_of}
use Rattle.faces.specs.Joins.{border_halves}
use Rattle.faces.proofs.joins.border_of.Given as goal

abbrev pub invariant-loop-cell : goal.invariant-loop-cell
invariant-loop-cell l =
    l.border.items ≡ flat_map border_halves (gaps_of (take l.cell-index l.cells))
