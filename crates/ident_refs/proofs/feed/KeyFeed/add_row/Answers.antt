use Rattle.std.proofs.Common.{List, ap, ◌∙◌}
use Rattle.std.proofs.lemmas.List.{with_items_is}
use Rattle.itf_reader.specs.Views.{row_of}
use Rattle.ident_refs.specs.declared.table_keys.TableKeys.{TableKeys}
use Rattle.ident_refs.specs.FedRows.{row_at}
use Rattle.ident_refs.specs.KeptViews.{all_kept_view}
use Rattle.ident_refs.proofs.KeptTables.{row_fed}
use Rattle.ident_refs.proofs.feed.KeyFeed.add_row.Goals as goal

pub returns : goal.returns
returns c l rows h =
    let r = row_of c.args.row.now in
    ap all_kept_view
    (with_items_is c.args.self.now.tables c.add_at.new.tables (c.add_at.auto.tables
    ∙ c.deref_mut.ensures.len))
    ∙ c.in_ok-add_at.ensures
    ∙ ap (λ (ts : List TableKeys). row_at c.args.table.0 r (all_kept_view ts))
    c.deref_mut.ensures.value
    ∙ ap (row_at c.args.table.0 r) h
    ∙ row_fed l c.args.table.0 rows r
