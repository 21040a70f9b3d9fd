use Rattle.std.proofs.Common.{◌++◌, ◌∷◌, [], ap, ◌∙◌}
use Rattle.std.proofs.lemmas.List.{map-append}
use Rattle.itf_reader.specs.declared.transfer_feed.read_tables.ReadTable.{ReadTable}
use Rattle.itf_reader.specs.ReadRows.{read_table_view, read_tables_view}
use Rattle.itf_reader.specs.Views.{rows_of}
use Rattle.itf_reader.proofs.Placed.{begun}
use Rattle.itf_reader.proofs.transfer_feed.read_tables.ReadTables.begin.Goals as goal

pub returns-clause-rows : goal.returns-clause-rows
returns-clause-rows c =
    let old = c.args.self.now in
    begun (read_tables_view old.tables.items) (read_tables_view c.push.new.self.items)
    (read_table_view old.last) (read_table_view c.replace-ended.new.dest)
    (ap read_tables_view c.in_ok-push.ensures.items
    ∙ (map-append read_table_view old.tables.items (c.replace-ended.result ∷ [])
    ∙ ap (λ (t : ReadTable). read_tables_view old.tables.items ++ (read_table_view t ∷ []))
    c.replace-ended.ensures.value))
    (ap (λ (t : ReadTable). rows_of t.rows.items) c.replace-ended.ensures.after
    ∙ ap rows_of c.new.ensures.items)
