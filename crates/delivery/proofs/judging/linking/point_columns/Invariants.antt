use Rattle.std.proofs.Common.{◌≡◌, [], take}
use Rattle.ili_grammar.specs.Syntax.{Codes}
use Rattle.table_layout.specs.Layouts.{Table}
use Rattle.table_layout.specs.Values.{columns_view}
use Rattle.area_drawings.specs.KeptPoints.{points_kept}
use Rattle.area_drawings.specs.KeptViews.{points_of}
use Rattle.delivery.specs.LinkRows.{point_columns}
use Rattle.delivery.proofs.judging.linking.point_columns.Given as goal

abbrev pub invariant-loop-number : goal.invariant-loop-number
invariant-loop-number l =
    (codes : Codes) (t : Table) → points_of l.kept
    ≡ points_kept codes t (point_columns 0 (columns_view (take l.number l.columns))) []
