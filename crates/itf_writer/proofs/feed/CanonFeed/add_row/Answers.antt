use Rattle.std.proofs.Common.{ap, sym, ◌∙◌, map}
use Rattle.std.proofs.lemmas.List.{with_items_is}
use Rattle.itf_reader.specs.ClosedRows.{by_table}
use Rattle.itf_reader.specs.Layouts.{form_of}
use Rattle.itf_reader.specs.Views.{row_of}
use Rattle.itf_writer.proofs.RowsCame.{row_came}
use Rattle.table_layout.specs.Values.{layout_view}
use Rattle.itf_writer.specs.Feeds.{held_in, rows_held}
use Rattle.itf_writer.proofs.FeedSteps.{on_ok}
use Rattle.itf_writer.proofs.feed.CanonFeed.add_row.Goals as goal

pub returns : goal.returns
returns c =
    let l = layout_view c.args.layout.now in
    let r = row_of c.args.row.now in
    let n = c.args.table.0 in
    on_ok c.add_at.result
    (λ k rows h.
    ap held_in (with_items_is c.args.self.now.tables c.add_at.new.tables (c.add_at.auto.tables
    ∙ c.deref_mut.ensures.len))
    ∙ (k (by_table (form_of l) rows) (ap held_in c.deref_mut.ensures.value ∙ h)
    ∙ ap (map (rows_held l.codes.continued)) (sym (row_came (form_of l) n rows r))))
    c.add_at.ensures
