-- The table that is added is the attribute's, read by its line and its own part.
use Rattle.std.proofs.Common.{arith}
use Rattle.std.proofs.lemmas.Grind.{common_steps}
use Rattle.resolver.specs.Values.{attribute_of, line_of, part_of}
use Rattle.table_layout.specs.Values.{owner_view}
use Rattle.table_layout.proofs.Shapes.{small_area, area_table_is}
use Rattle.table_layout.proofs.tables.add_area_table.Goals as goal

pub helper_table-requires-clause-small : goal.helper_table-requires-clause-small
helper_table-requires-clause-small c =
    small_area (attribute_of c.args.attribute.now) c.args.attribute.now.name
    c.args.attribute.now.optional (line_of c.in-Some.line.now)
    (part_of c.in-Some.part.now) c.in-Some.ensures c.requires

pub returns-in_ok-push : goal.returns-in_ok-push
returns-in_ok-push c =
    let t = area_table_is (owner_view c.args.owner) c.args.column
    (attribute_of c.args.attribute.now) c.args.attribute.now.name c.args.attribute.now.optional
    (line_of c.in-Some.line.now) (part_of c.in-Some.part.now) c.in-Some.ensures in
    grind (arith, common_steps)
