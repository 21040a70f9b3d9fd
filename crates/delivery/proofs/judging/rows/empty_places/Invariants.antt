use Rattle.std.proofs.Common.{◌≡◌, [], map, take}
use Rattle.ili_grammar.specs.Syntax.{Codes}
use Rattle.table_layout.specs.Values.{tables_view}
use Rattle.area_drawings.specs.KeptRows.{kept}
use Rattle.area_drawings.specs.KeptViews.{kept_in}
use Rattle.delivery.proofs.judging.rows.empty_places.Given as goal

abbrev pub invariant-loop-table : goal.invariant-loop-table
invariant-loop-table l =
    (codes : Codes) → kept_in l.places.items
    ≡ map (λ t. kept codes t []) (tables_view (take l.table-index l.tables))
