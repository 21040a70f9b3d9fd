use Rattle.std.proofs.Common.{◌≡◌, ◌++◌, map, drop}
use Rattle.std.specs.List.{flat_map}
use Rattle.resolver.specs.Values.{attribute_of}
use Rattle.table_layout.specs.Attributes.{lines_of}
use Rattle.table_layout.specs.Values.{lines_view}
use Rattle.table_layout.proofs.attributes.lines.Given as goal

abbrev pub invariant-loop-attribute : goal.invariant-loop-attribute
invariant-loop-attribute l =
    lines_view l.lines.items ++ flat_map lines_of
    (map attribute_of (drop l.attribute-index l.attributes))
    ≡ flat_map lines_of (map attribute_of l.attributes)
