use Rattle.resolver.specs.Values.{attribute_of}
use Rattle.table_layout.specs.Few.{HasFew}
use Rattle.table_layout.proofs.Listed.{all_read}
use Rattle.table_layout.proofs.tables.add_surface_tables.Goals as goal

pub add_surface_table-requires : goal.add_surface_table-requires
add_surface_table-requires c =
    all_read HasFew attribute_of c.args.attributes.now c.loop-attribute.attribute-index
    c.attribute-item.result c.loop-attribute-test.true c.attribute-item.is c.requires.lines
