use Rattle.itf_reader.specs.Findings.{findings_of}
use Rattle.ident_refs.specs.KeptViews.{all_kept_view}
use Rattle.ident_refs.proofs.KeptTables.{found_in}
use Rattle.ident_refs.proofs.sorted.Keys.add_findings.Goals as goal

pub returns : goal.returns
returns c l rows h =
    found_in l rows (all_kept_view c.args.self.now.tables.now)
    (findings_of c.args.findings.now.items) _ h c.in_ok-add_findings.ensures
