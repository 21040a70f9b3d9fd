use Rattle.itf_reader.specs.Findings.{findings_of}
use Rattle.ident_refs.specs.KeptRows.{ref_findings}
use Rattle.ident_refs.specs.KeptViews.{ref_view, ids_view}
use Rattle.ident_refs.proofs.FlatSteps.{flat_step}
use Rattle.ident_refs.proofs.table_keys.add_references.Goals as goal

pub loop-reference-preserved : goal.loop-reference-preserved
loop-reference-preserved c =
    flat_step ref_view (ref_findings (ids_view c.args.ids.now)) c.loop-reference.reference-index
    c.args.refs.now c.reference-item.result
    (findings_of c.loop-reference.findings.items) _ _ c.loop-reference-test.true
    c.reference-item.is
    c.in_ok-add_dangling.ensures c.loop-reference.invariant
