use Rattle.std.proofs.Common.{◌≡◌, ◌++◌, [], take, drop}
use Rattle.itf_reader.specs.Findings.{findings_of}
use Rattle.ident_refs.specs.KeptRows.{repeats, zip_keys}
use Rattle.ident_refs.proofs.repeats.KeyColumn.add_repeats.Given as goal

abbrev pub invariant-loop-place : goal.invariant-loop-place
invariant-loop-place l =
    findings_of l.findings.items ++ repeats l.code l.column
    (take l.place (zip_keys l.self.lines.now l.self.keys.now))
    (drop l.place (zip_keys l.self.lines.now l.self.keys.now))
    ≡ findings_of l.fn.findings.items ++ repeats l.code l.column []
    (zip_keys l.self.lines.now l.self.keys.now)
