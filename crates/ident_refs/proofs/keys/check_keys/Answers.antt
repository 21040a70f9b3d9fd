use Rattle.std.proofs.Common.{List, ◌++◌, ap, ◌∙◌}
use Rattle.table_layout.specs.Values.{layout_view}
use Rattle.itf_reader.specs.declared.transfer.TableRows.{TableRows as CodeTableRows}
use Rattle.itf_reader.specs.declared.findings.Finding.{Finding as CodeFinding}
use Rattle.itf_reader.specs.Findings.{in_order, findings_of}
use Rattle.itf_reader.specs.Views.{tables_rows_of, transfer_of}
use Rattle.ident_refs.specs.FedRows.{all_rows, fed_keys, fed_tables}
use Rattle.ident_refs.specs.KeptViews.{all_kept_view}
use Rattle.ident_refs.proofs.FedTransfer.{transfer_keys}
use Rattle.ident_refs.proofs.KeptTables.{transfer_fed}
use Rattle.ident_refs.proofs.keys.check_keys.Goals as goal

pub returns : goal.returns
returns c =
    let l = layout_view c.args.layout.now in
    let transfer = transfer_of c.args.transfer.now in
    let old = all_kept_view c.in_ok-feed.feed.tables.items in
    let has = transfer_fed l transfer old _ c.in_ok-feed.ensures
    (c.in_ok-add_tables.ensures
    ∙ ap (λ (ts : List CodeTableRows). fed_tables 0 (tables_rows_of ts) old)
    c.deref.ensures.value) in
    c.in_ok-sort_findings.ensures
    ∙ ap in_order
    (c.in_ok-add_findings.ensures l (all_rows 0 transfer)
    (c.in_ok-sorted.ensures l (all_rows 0 transfer) has)
    ∙ ap (λ (fs : List CodeFinding). findings_of fs ++ fed_keys l (all_rows 0 transfer))
    c.new-findings.ensures.items
    ∙ transfer_keys l transfer c.requires)
