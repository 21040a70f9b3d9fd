use Rattle.std.proofs.Common.{ℕ, List, [], ◌∷◌, ◌++◌, Option, ap, ◌∙◌}
use Rattle.ili_grammar.specs.Values.{codes_of}
use Rattle.table_layout.specs.Values.{table_view}
use Rattle.itf_reader.specs.Views.{row_of}
use Rattle.ident_refs.specs.KeptRows.{with_key}
use Rattle.ident_refs.specs.KeptViews.{rows_view}
use Rattle.ident_refs.specs.SharedLists.{lists_view}
use Rattle.ident_refs.proofs.SharedSteps.{on_ok_then, kept_same, lists_taken}
use Rattle.ident_refs.proofs.table_keys.TableKeys.add_row.Goals as goal

pub returns : goal.returns
returns c =
    let codes = codes_of c.args.self.now.reader.codes.now in
    let table = table_view c.args.self.now.reader.table.now in
    let lists = c.args.self.now.idents.lists.items in
    on_ok_then c.add_refs.result
    (λ r. kept_same codes table _ _ _ _ _ _ _ _ c.in_ok-push.ensures.items
    (c.in_ok-push-2.ensures.items
    ∙ ap (λ (k : Option (List ℕ)). c.args.self.now.ids.items ++ k ∷ []) c.in_ok-row_key.ensures)
    (lists_taken (with_key codes table (row_of c.args.row.now))
    (lists_view (rows_view c.args.self.now.rows) lists)
    (lists_view (rows_view c.add_keys.new.rows) lists) c.args.self.now.idents.order.items
    c.in_ok-add_keys.ensures) r)
    c.add_refs.ensures
