use Rattle.itf_reader.specs.Findings.{findings_of, code_in, other_of}
use Rattle.ident_refs.proofs.SharedSteps.{copies_step, same_finding}
use Rattle.ident_refs.proofs.shared_lists.add_copies.Goals as goal

pub loop-finding-preserved : goal.loop-finding-preserved
loop-finding-preserved c =
    copies_step c.loop-finding.findings.items c.push.new.self.items _ c.args.own.now
    c.loop-finding.finding-index c.finding-item.result (findings_of c.args.findings.now.items)
    c.loop-finding-test.true c.finding-item.is c.in_ok-push.ensures.items
    (same_finding c.finding-item.result.line c.finding-item.result.column
    (code_in c.in_ok-copied.field-0) (code_in c.finding-item.result.fault)
    (other_of c.in_ok-copied.field-0)
    (other_of c.finding-item.result.fault) c.in_ok-copied.ensures.code
    c.in_ok-copied.ensures.other)
    c.loop-finding.invariant
