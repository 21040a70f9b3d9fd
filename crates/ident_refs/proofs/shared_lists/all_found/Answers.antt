use Rattle.std.proofs.Common.{List, ◌++◌, ap, ◌∙◌}
use Rattle.itf_reader.specs.declared.findings.Finding.{Finding as CodeFinding}
use Rattle.itf_reader.specs.Findings.{findings_of}
use Rattle.ident_refs.specs.KeptRows.{list_findings}
use Rattle.ident_refs.specs.KeptViews.{rows_view}
use Rattle.ident_refs.specs.SharedLists.{found_view, list_view}
use Rattle.ident_refs.proofs.Collecting.{collected}
use Rattle.ident_refs.proofs.shared_lists.all_found.Goals as goal

pub loop-list-preserved : goal.loop-list-preserved
loop-list-preserved c =
    collected found_view (list_view (rows_view c.args.rows.now))
    (list_findings c.args.lines.now) c.loop-list.found.items c.push.new.self.items _
    c.args.lists.now c.loop-list.list-index c.list-item.result
    c.loop-list-test.true c.list-item.is c.in_ok-push.ensures.items
    (c.in_ok-add_list.ensures
    ∙ ap (λ (l : List CodeFinding). findings_of l
    ++ list_findings c.args.lines.now
    (list_view (rows_view c.args.rows.now) c.list-item.result)) c.new-findings.ensures.items)
    c.loop-list.invariant
