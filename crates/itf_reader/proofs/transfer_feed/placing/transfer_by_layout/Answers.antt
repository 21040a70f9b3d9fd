use Rattle.std.proofs.Common.{rules, ap, ◌∙◌, ◌≡◌, length, List}
use Rattle.std.specs.Vec.{with_items}
use Rattle.std.proofs.lemmas.List.{with_items_is}
use Rattle.itf_reader.specs.declared.transfer.TableRows.{TableRows}
use Rattle.itf_reader.specs.ClosedRows.{pairs, all_pairs}
use Rattle.itf_reader.specs.ReadRows.{read_table_view, read_tables_view}
use Rattle.itf_reader.specs.Placing.{with_rows}
use Rattle.itf_reader.specs.Views.{tables_rows_of}
use Rattle.itf_reader.proofs.Placed.{all_placed}
use Rattle.itf_reader.proofs.transfer_feed.placing.transfer_by_layout.Goals as goal

pub returns : goal.returns
returns c =
    let e : c.len.result ≡ length c.args.layout.now.tables.items = search rules in
    let front = all_pairs (read_tables_view c.args.read.tables.items) in
    let back = pairs (read_table_view c.args.read.last) in
    let v = with_items_is c.in_ok-tables.tables c.put.new.tables (c.put.auto.tables
    ∙ c.deref_mut.ensures.len) in
    let w = with_items_is (with_items c.in_ok-tables.tables c.put.new.tables)
    c.put_tables.new.tables (c.put_tables.auto.tables ∙ c.deref_mut-2.ensures.len) in
    let over = ap (λ (ts : List TableRows). with_rows 0 back (tables_rows_of ts))
    c.deref_mut.ensures.value in
    let first = c.in_ok-put.ensures ∙ over in
    let second = c.in_ok-put_tables.ensures
    ∙ ap (λ (ts : List TableRows). with_rows 0 front (tables_rows_of ts))
    (c.deref_mut-2.ensures.value ∙ v) in
    all_placed c.args.layout.now front back
    (tables_rows_of c.in_ok-tables.tables.items) _ c.len.result e c.in_ok-tables.ensures
    (ap tables_rows_of w ∙ (second ∙ ap (with_rows 0 front) first))
