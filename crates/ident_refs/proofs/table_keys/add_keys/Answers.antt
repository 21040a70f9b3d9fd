use Rattle.std.proofs.Common.{ℕ, List, Option, subst}
use Rattle.ili_grammar.specs.Values.{codes_of}
use Rattle.table_layout.specs.Values.{table_view}
use Rattle.itf_reader.specs.Views.{row_of}
use Rattle.ident_refs.specs.KeptViews.{rows_view}
use Rattle.ident_refs.specs.RowKeys.{HasParts}
use Rattle.ident_refs.proofs.PartKeys.{row_added}
use Rattle.ident_refs.proofs.SharedSteps.{on_ok_then}
use Rattle.ident_refs.proofs.table_keys.add_keys.Goals as goal

pub returns : goal.returns
returns c =
    let codes = codes_of c.args.reader.now.codes.now in
    let table = table_view c.args.reader.now.table.now in
    let row = row_of c.args.row.now in
    let keys = c.in_ok-part_keys.field-0.items in
    on_ok_then c.add.result
    (λ e. row_added codes table row c.args.idents.now.parts.items (rows_view c.args.rows.now)
    (rows_view c.add.new.self) keys c.args.idents.now.lists.items
    (subst (λ (parts : List (Option ℕ)). HasParts codes table row parts keys) c.deref.ensures.value
    c.in_ok-part_keys.ensures) c.args.idents.now.numbered e)
    c.add.ensures
