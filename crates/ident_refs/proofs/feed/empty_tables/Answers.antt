use Rattle.std.proofs.Common.{length, sym}
use Rattle.std.proofs.lemmas.List.{length-map}
use Rattle.ili_grammar.specs.Values.{codes_of}
use Rattle.table_layout.specs.Values.{table_view, column_view}
use Rattle.itf_reader.specs.Few.{HasFew}
use Rattle.ident_refs.specs.FedRows.{HasPlaces}
use Rattle.ident_refs.specs.KeptRows.{no_rows}
use Rattle.ident_refs.specs.KeptViews.{kept_view}
use Rattle.ident_refs.proofs.AllMapped.{all_mapped, few_columns}
use Rattle.ident_refs.proofs.Collecting.{collected}
use Rattle.ident_refs.proofs.feed.empty_tables.Goals as goal

pub new-requires-clause-few : goal.new-requires-clause-few
new-requires-clause-few c =
    few_columns (table_view c.table-item.result) (length c.table-item.result.columns.items)
    (sym (length-map c.table-item.result.columns.items column_view))
    (all_mapped HasFew table_view c.args.tables.now c.loop-table.table-index c.table-item.result
    c.requires.few c.loop-table-test.true c.table-item.is)

pub new-requires-clause-places : goal.new-requires-clause-places
new-requires-clause-places c =
    all_mapped HasPlaces table_view c.args.tables.now c.loop-table.table-index c.table-item.result
    c.requires.places c.loop-table-test.true c.table-item.is

pub loop-table-preserved : goal.loop-table-preserved
loop-table-preserved c =
    collected kept_view table_view (no_rows (codes_of c.args.codes.now)) c.loop-table.kept.items
    c.push.new.self.items c.in_ok-new.field-0 c.args.tables.now c.loop-table.table-index
    c.table-item.result
    c.loop-table-test.true c.table-item.is c.in_ok-push.ensures.items c.in_ok-new.ensures
    c.loop-table.invariant
