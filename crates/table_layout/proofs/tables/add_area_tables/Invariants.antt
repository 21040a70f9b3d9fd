use Rattle.std.proofs.Common.{◌≡◌, ◌≤◌, ◌++◌, map, drop}
use Rattle.resolver.specs.Values.{attribute_of}
use Rattle.table_layout.specs.Tables.{area_tables}
use Rattle.table_layout.specs.Values.{tables_view, owner_view}
use Rattle.table_layout.proofs.tables.add_area_tables.Given as goal

abbrev pub invariant-loop-attribute : goal.invariant-loop-attribute
invariant-loop-attribute l =
    (l.column ≤ l.attribute-index)
    × (tables_view l.tables.items ++ area_tables (owner_view l.owner) l.column
    (map attribute_of (drop l.attribute-index l.attributes))
    ≡ tables_view l.fn.tables.items ++ area_tables (owner_view l.owner) 0
    (map attribute_of l.attributes))
