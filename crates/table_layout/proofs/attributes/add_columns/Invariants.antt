use Rattle.std.proofs.Common.{◌≡◌, ◌++◌, map, drop}
use Rattle.std.specs.List.{flat_map}
use Rattle.resolver.specs.Values.{attribute_of}
use Rattle.table_layout.specs.Attributes.{columns_of}
use Rattle.table_layout.specs.Values.{columns_view}
use Rattle.table_layout.proofs.attributes.add_columns.Given as goal

abbrev pub invariant-loop-attribute : goal.invariant-loop-attribute
invariant-loop-attribute l =
    columns_view l.columns.items ++ flat_map (columns_of l.mains)
    (map attribute_of (drop l.attribute-index l.attributes))
    ≡ columns_view l.fn.columns.items ++ flat_map (columns_of l.mains)
    (map attribute_of l.attributes)
