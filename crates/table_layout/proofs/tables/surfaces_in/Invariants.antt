use Rattle.std.proofs.Common.{◌≡◌, ◌+◌, ◌≤◌, map, drop}
use Rattle.resolver.specs.Values.{attribute_of}
use Rattle.table_layout.specs.Tables.{surfaces_in}
use Rattle.table_layout.proofs.tables.surfaces_in.Given as goal

abbrev pub invariant-loop-attribute : goal.invariant-loop-attribute
invariant-loop-attribute l =
    (l.surfaces ≤ l.attribute-index)
    × (l.surfaces + surfaces_in (map attribute_of (drop l.attribute-index l.attributes))
    ≡ surfaces_in (map attribute_of l.attributes))
