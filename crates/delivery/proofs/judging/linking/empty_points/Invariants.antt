use Rattle.std.proofs.Common.{◌≡◌, [], map, take}
use Rattle.ili_grammar.specs.Syntax.{Codes}
use Rattle.table_layout.specs.Values.{tables_view}
use Rattle.delivery.specs.LinkRows.{link_points, points_in}
use Rattle.delivery.proofs.judging.linking.empty_points.Given as goal

abbrev pub invariant-loop-table : goal.invariant-loop-table
invariant-loop-table l =
    (codes : Codes) → points_in l.points.items
    ≡ map (λ t. link_points codes t []) (tables_view (take l.table-index l.tables))
