use Rattle.std.proofs.Common.{◌≡◌, ◌+◌, ◌≤◌, map, drop}
use Rattle.resolver.specs.Values.{attribute_of}
use Rattle.table_layout.specs.Tables.{areas_in}
use Rattle.table_layout.proofs.tables.areas_in.Given as goal

abbrev pub invariant-loop-attribute : goal.invariant-loop-attribute
invariant-loop-attribute l =
    (l.areas ≤ l.attribute-index)
    × (l.areas + areas_in (map attribute_of (drop l.attribute-index l.attributes))
    ≡ areas_in (map attribute_of l.attributes))
