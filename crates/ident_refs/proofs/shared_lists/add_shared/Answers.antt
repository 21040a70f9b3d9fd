use Rattle.std.proofs.Common.{ℕ, List, ◌++◌, get_or, ap, ◌∙◌}
use Rattle.std.specs.List.{flat_map}
use Rattle.itf_reader.specs.Findings.{Finding, findings_of}
use Rattle.ident_refs.specs.declared.shared_lists.Found.{Found}
use Rattle.ident_refs.specs.KeptRows.{list_findings}
use Rattle.ident_refs.specs.KeptViews.{rows_view}
use Rattle.ident_refs.specs.SharedLists.{found_view, lists_view, picked_one}
use Rattle.ident_refs.proofs.SharedSteps.{flat_all, number_step, taken_all}
use Rattle.ident_refs.proofs.shared_lists.add_shared.Goals as goal

pub returns : goal.returns
returns c =
    c.loop-number.invariant
    ∙ ap (λ (order : List ℕ). findings_of c.args.findings.now.items
    ++ flat_map (λ j. flat_map found_view (picked_one c.in_ok-found.found.items j)) order)
    (taken_all c.args.order.now c.loop-number.number-index c.loop-number-test.false)
    ∙ ap (λ (fs : List Finding). findings_of c.args.findings.now.items ++ fs)
    (flat_all found_view (list_findings c.args.lines.now) c.in_ok-found.found.items
    (lists_view (rows_view c.args.rows.now) c.args.lists.now) c.args.order.now
    c.in_ok-found.ensures)

pub loop-number-preserved : goal.loop-number-preserved
loop-number-preserved c =
    let k = get_or c.args.order.now c.loop-number.number-index 0 in
    number_step (λ j. flat_map found_view (picked_one c.in_ok-found.found.items j)) c.args.order.now
    c.loop-number.number-index 0 (findings_of c.loop-number.findings.items)
    (findings_of c.add_found.new.findings.items) (findings_of c.args.findings.now.items)
    c.loop-number-test.true
    (c.in_ok-add_found.ensures
    ∙ ap (λ (fs : List Found). findings_of c.loop-number.findings.items
    ++ flat_map found_view (picked_one fs k)) c.deref.ensures.value)
    c.loop-number.invariant
