use Rattle.std.proofs.Common.{◌≡◌, ◌++◌, drop}
use Rattle.table_layout.specs.Values.{tables_view}
use Rattle.reports.specs.Surfaces.{surfaces_from}
use Rattle.reports.specs.SurfaceViews.{surfaces_view}
use Rattle.reports.proofs.surfaces.surfaces_among.Given as goal

abbrev pub invariant-loop-number : goal.invariant-loop-number
invariant-loop-number l =
    surfaces_view l.surfaces.items ++ surfaces_from l.number (tables_view (drop l.number l.tables))
    ≡ surfaces_from 0 (tables_view l.tables)
