use Rattle.std.proofs.Common.{refl, sym, ap, ◌∙◌}
use Rattle.reports.specs.Kinds.{is_fault, kind_of}
use Rattle.reports.specs.Lines.{Line}
use Rattle.reports.proofs.LineKinds.{some_line, none_left, pass_over}
use Rattle.reports.proofs.kinds.has_fault.Goals as goal

pub loop-line-init : goal.loop-line-init
loop-line-init c = refl

pub returns-then-is_fault : goal.returns-then-is_fault
returns-then-is_fault c =
    let here = ap is_fault (sym c.kind_of.ensures) ∙ sym c.is_fault.ensures ∙ c.if-is_fault.true in
    sym (some_line (λ (l : Line). is_fault (kind_of l)) c.args.lines.now c.loop-line.line-index
    c.line-item.result c.line-item.result c.loop-line-test.true c.line-item.is here)

pub loop-line-preserved : goal.loop-line-preserved
loop-line-preserved c =
    let here = ap is_fault (sym c.kind_of.ensures) ∙ sym c.is_fault.ensures ∙ c.if-is_fault.false in
    pass_over (λ (l : Line). is_fault (kind_of l)) c.args.lines.now c.loop-line.line-index
    c.line-item.result c.line-item.result c.loop-line-test.true c.line-item.is here
    ∙ c.loop-line.invariant

pub returns : goal.returns
returns c = none_left (λ (l : Line). is_fault (kind_of l)) c.args.lines.now c.loop-line.line-index
    c.loop-line-test.false ∙ c.loop-line.invariant
