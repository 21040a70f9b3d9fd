use Rattle.std.proofs.Common.{List, ◌++◌, ap, ◌∙◌}
use Rattle.itf_reader.specs.declared.findings.Finding.{Finding as CodeFinding}
use Rattle.itf_reader.specs.Findings.{findings_of}
use Rattle.ident_refs.specs.SharedLists.{found_view}
use Rattle.ident_refs.proofs.SharedSteps.{found_some, found_none, on_ok_then}
use Rattle.ident_refs.proofs.shared_lists.add_found.Goals as goal

pub returns-in-Some : goal.returns-in-Some
returns-in-Some c =
    on_ok_then c.add_copies.result
    (λ e. found_some found_view c.args.found.now c.args.number c.in-Some.own.now
    (findings_of c.args.findings.now.items)
    (findings_of c.add_copies.new.findings.items) c.in-Some.ensures.lookup.3.0
    c.in-Some.ensures.lookup.1
    (e ∙ ap (λ (l : List CodeFinding). findings_of c.args.findings.now.items ++ findings_of l)
    c.deref.ensures.value))
    c.add_copies.ensures

pub returns-in-None : goal.returns-in-None
returns-in-None c =
    found_none found_view c.args.found.now c.args.number
    (findings_of c.args.findings.now.items) c.in-None.ensures.lookup.3
