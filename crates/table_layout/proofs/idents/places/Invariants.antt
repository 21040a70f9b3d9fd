use Rattle.std.proofs.Common.{◌≡◌, ◌+◌, ◌≤◌, ◌++◌, map, drop}
use Rattle.resolver.specs.Values.{attribute_of}
use Rattle.table_layout.specs.Attributes.{places_from}
use Rattle.table_layout.proofs.idents.places.Given as goal

abbrev pub invariant-loop-attribute : goal.invariant-loop-attribute
invariant-loop-attribute l =
    (l.column ≤ l.first + l.attribute-index) × (l.line ≤ l.attribute-index)
    × (l.places.items ++ places_from l.all l.column l.line
    (map attribute_of (drop l.attribute-index l.attributes))
    ≡ places_from l.all l.first 0 (map attribute_of l.attributes))
