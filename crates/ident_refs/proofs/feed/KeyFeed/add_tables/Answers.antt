use Rattle.std.proofs.Common.{◌+◌, List, drop, ap, ◌∙◌}
use Rattle.std.proofs.lemmas.List.{with_items_is}
use Rattle.itf_reader.specs.declared.transfer.Row.{Row as CodeRow}
use Rattle.itf_reader.specs.Views.{rows_of, tables_rows_of}
use Rattle.ident_refs.specs.declared.table_keys.TableKeys.{TableKeys}
use Rattle.ident_refs.specs.FedRows.{fed_rows, fed_tables}
use Rattle.ident_refs.specs.KeptViews.{all_kept_view}
use Rattle.ident_refs.proofs.FeedSteps.{tables_step}
use Rattle.ident_refs.proofs.feed.KeyFeed.add_tables.Goals as goal

pub loop-place-preserved : goal.loop-place-preserved
loop-place-preserved c =
    ap (λ (ts : List TableKeys). fed_tables (c.loop-place.place + 1)
    (drop (c.loop-place.place + 1) (tables_rows_of c.args.transfer.now)) (all_kept_view ts))
    (with_items_is c.loop-place.self.tables c.add_rows.new.tables (c.add_rows.auto.tables
    ∙ c.deref_mut.ensures.len))
    ∙ tables_step c.loop-place.place c.args.transfer.now c.index-transfer-place.result
    (all_kept_view c.loop-place.self.tables.items) _ _ c.loop-place-test.true
    c.index-transfer-place.is
    (c.in_ok-add_rows.ensures
    ∙ ap (λ (rows : List CodeRow). fed_rows c.loop-place.place (rows_of rows)
    (all_kept_view c.deref_mut.result.now)) c.deref.ensures.value
    ∙ ap (λ (ts : List TableKeys). fed_rows c.loop-place.place
    (rows_of c.index-transfer-place.result.rows.items) (all_kept_view ts))
    c.deref_mut.ensures.value)
    c.loop-place.invariant
