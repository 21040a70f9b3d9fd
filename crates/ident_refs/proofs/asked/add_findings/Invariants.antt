use Rattle.std.proofs.Common.{◌≡◌, ◌++◌, drop, map}
use Rattle.std.specs.List.{flat_map}
use Rattle.itf_reader.specs.Findings.{findings_of}
use Rattle.ident_refs.specs.KeptRows.{kept_findings}
use Rattle.ident_refs.specs.KeptViews.{kept_view, ids_view}
use Rattle.ident_refs.proofs.asked.add_findings.Given as goal

abbrev pub invariant-loop-place : goal.invariant-loop-place
invariant-loop-place l =
    findings_of l.findings.items ++ flat_map (kept_findings (ids_view l.ids))
    (drop l.place (map kept_view l.tables))
    ≡ findings_of l.fn.findings.items ++ flat_map (kept_findings (ids_view l.ids))
    (map kept_view l.tables)
