use Rattle.std.proofs.Common.{◌≡◌, ◌+◌, ◌≤◌, [], length, map, drop}
use Rattle.std.specs.List.{flat_map}
use Rattle.resolver.specs.Values.{attribute_of}
use Rattle.table_layout.specs.Attributes.{columns_of}
use Rattle.table_layout.proofs.attributes.columns_in.Given as goal

abbrev pub invariant-loop-attribute : goal.invariant-loop-attribute
invariant-loop-attribute l =
    (l.columns ≤ l.attribute-index)
    × (l.columns
    + length (flat_map (columns_of []) (map attribute_of (drop l.attribute-index l.attributes)))
    ≡ length (flat_map (columns_of []) (map attribute_of l.attributes)))
