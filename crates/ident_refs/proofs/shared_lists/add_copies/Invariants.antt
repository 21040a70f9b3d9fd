use Rattle.std.proofs.Common.{◌≡◌, ◌++◌, take}
use Rattle.itf_reader.specs.Findings.{findings_of}
use Rattle.ident_refs.proofs.shared_lists.add_copies.Given as goal

abbrev pub invariant-loop-finding : goal.invariant-loop-finding
invariant-loop-finding l =
    findings_of l.findings.items ≡ findings_of l.fn.findings.items
    ++ findings_of (take l.finding-index l.own)
