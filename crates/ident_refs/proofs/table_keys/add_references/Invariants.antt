use Rattle.std.proofs.Common.{◌≡◌, ◌++◌, drop, map}
use Rattle.std.specs.List.{flat_map}
use Rattle.itf_reader.specs.Findings.{findings_of}
use Rattle.ident_refs.specs.KeptRows.{ref_findings}
use Rattle.ident_refs.specs.KeptViews.{ref_view, ids_view}
use Rattle.ident_refs.proofs.table_keys.add_references.Given as goal

abbrev pub invariant-loop-reference : goal.invariant-loop-reference
invariant-loop-reference l =
    findings_of l.findings.items ++ flat_map (ref_findings (ids_view l.ids))
    (drop l.reference-index (map ref_view l.refs))
    ≡ findings_of l.fn.findings.items ++ flat_map (ref_findings (ids_view l.ids))
    (map ref_view l.refs)
