use Rattle.std.proofs.Common.{◌≡◌, ◌++◌, map, drop}
use Rattle.std.specs.List.{flat_map}
use Rattle.resolver.specs.Values.{attribute_of}
use Rattle.table_layout.specs.Tables.{surface_table}
use Rattle.table_layout.specs.Values.{tables_view, owner_view}
use Rattle.table_layout.proofs.tables.add_surface_tables.Given as goal

abbrev pub invariant-loop-attribute : goal.invariant-loop-attribute
invariant-loop-attribute l =
    tables_view l.tables.items ++ flat_map (surface_table (owner_view l.owner))
    (map attribute_of (drop l.attribute-index l.attributes))
    ≡ tables_view l.fn.tables.items ++ flat_map (surface_table (owner_view l.owner))
    (map attribute_of l.attributes)
