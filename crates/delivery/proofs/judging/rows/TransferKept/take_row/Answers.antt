use Rattle.std.proofs.Common.{List, sym, ap, ◌∙◌, subst}
use Rattle.std.specs.Prelude.{slice_get, IfSome}
use Rattle.std.proofs.lemmas.List.{with_items_is}
use Rattle.table_layout.specs.Values.{layout_view}
use Rattle.itf_reader.specs.RowReadings.{Cell, cells_view, vertices_view}
use Rattle.itf_reader.specs.Views.{row_of}
use Rattle.area_drawings.specs.KeptPoints.{with_points}
use Rattle.area_drawings.specs.KeptRows.{with_row}
use Rattle.area_drawings.specs.KeptViews.{kept_in}
use Rattle.delivery.specs.KeptRows.{Found, with_found, changed_at, tables_found, all_kept}
use Rattle.delivery.specs.KeptRows.{transfer_so_far}
use Rattle.delivery.specs.KeptViews.{AreReadAs, found_in}
use Rattle.delivery.specs.LinkRows.{all_link_points, points_in}
use Rattle.delivery.proofs.LinkColumns.{links_more}
use Rattle.delivery.proofs.KeptSteps.{on_ok, row_came, found_more, kept_more}
use Rattle.delivery.proofs.judging.rows.TransferKept.take_row.Goals as goal

pub returns-clause-judged : goal.returns-clause-judged
returns-clause-judged c =
    let l = layout_view c.args.layout.now in
    let n = c.args.table.0 in
    let r = row_of c.args.row.now in
    let values = c.read_at.new.values in
    let old = c.args.self.now in
    on_ok c.add_row.result
    (λ k rows h.
    let t = transfer_so_far l rows in
    let before = ap found_in c.deref_mut.ensures.value ∙ h.found in
    record {
      found =
          ap found_in (with_items_is old.tables c.read_at.new.tables
          (c.read_at.auto.tables ∙ c.deref_mut.ensures.len))
          ∙ c.in_ok-read_at.ensures.found
          ∙ ap (changed_at n (with_found l.codes r)) before
          ∙ found_more l.codes l.tables t n r
          ∙ ap (tables_found l.codes l.tables) (sym (row_came l n rows r));
      kept =
          ap kept_in (with_items_is old.places c.keep_at.new.places
          (c.keep_at.auto.places ∙ c.deref_mut-2.ensures.len))
          ∙ c.in_ok-keep_at.ensures
          ∙ ap (changed_at n (with_row r.line (cells_view values.cells.items)
          (vertices_view values.vertices.items))) (ap kept_in c.deref_mut-2.ensures.value ∙ h.kept)
          ∙ kept_more l.codes l.tables t n r values
          (subst (λ (fs : List Found). IfSome (slice_get fs n)
          (λ f. AreReadAs l.codes f.table r values)) before c.in_ok-read_at.ensures.read)
          ∙ ap (all_kept l.codes l.tables) (sym (row_came l n rows r));
      keys = k l rows h.keys;
    })
    c.add_row.ensures

pub returns-clause-points : goal.returns-clause-points
returns-clause-points c =
    let l = layout_view c.args.layout.now in
    let n = c.args.table.0 in
    let r = row_of c.args.row.now in
    let values = c.read_at.new.values in
    on_ok c.add_row.result
    (λ k rows h p.
    let t = transfer_so_far l rows in
    let before = ap found_in c.deref_mut.ensures.value ∙ h.found in
    c.in_ok-keep_points.ensures
    ∙ ap (λ (cs : List Cell). changed_at n (with_points r.line cs) (points_in c.args.points.now))
    (ap cells_view c.deref.ensures.value)
    ∙ ap (changed_at n (with_points r.line (cells_view values.cells.items))) p
    ∙ links_more l.codes l.tables t n r values
    (subst (λ (fs : List Found). IfSome (slice_get fs n)
    (λ f. AreReadAs l.codes f.table r values)) before c.in_ok-read_at.ensures.read)
    ∙ ap (all_link_points l.codes l.tables) (sym (row_came l n rows r)))
    c.add_row.ensures
