-- The table is read by the attributes and the lists of the own part.
use Rattle.std.proofs.Common.{map, arith}
use Rattle.std.proofs.lemmas.Grind.{common_steps}
use Rattle.std.proofs.lemmas.List.{length-map}
use Rattle.resolver.specs.Values.{attribute_of, line_of, part_of, places_of}
use Rattle.table_layout.specs.Values.{owner_view, role_view, column_view, columns_view}
use Rattle.table_layout.proofs.Shapes.{few_own, helper_table_is}
use Rattle.table_layout.proofs.tables.helper_table.Goals as goal

pub idents-requires-clause-few : goal.idents-requires-clause-few
idents-requires-clause-few c =
    let few = few_own (part_of c.args.part.now) (map attribute_of c.own.result.0.now)
    (places_of c.own.result.1.now) c.own.ensures c.requires.small in
    grind (arith, common_steps)

pub returns : goal.returns
returns c =
    let t = helper_table_is (owner_view c.args.owner) (role_view c.args.role)
    (columns_view c.args.columns.items) c.args.name.now (line_of c.args.line.now)
    (part_of c.args.part.now) (map attribute_of c.own.result.0.now)
    (places_of c.own.result.1.now) c.own.ensures in
    let n = length-map c.args.columns.items column_view in
    grind (arith, common_steps)
