use Rattle.std.proofs.Common.{refl, sym, ap, ◌∙◌}
use Rattle.reports.specs.Kinds.{is_undecided, kind_of}
use Rattle.reports.specs.Lines.{Line}
use Rattle.reports.proofs.LineKinds.{some_line, none_left, pass_over}
use Rattle.reports.proofs.kinds.has_undecided.Goals as goal

pub loop-line-init : goal.loop-line-init
loop-line-init c = refl

pub returns-then-is_undecided : goal.returns-then-is_undecided
returns-then-is_undecided c =
    let here = ap is_undecided (sym c.kind_of.ensures) ∙ sym c.is_undecided.ensures
    ∙ c.if-is_undecided.true in
    sym (some_line (λ (l : Line). is_undecided (kind_of l)) c.args.lines.now c.loop-line.line-index
    c.line-item.result c.line-item.result c.loop-line-test.true c.line-item.is here)

pub loop-line-preserved : goal.loop-line-preserved
loop-line-preserved c =
    let here = ap is_undecided (sym c.kind_of.ensures) ∙ sym c.is_undecided.ensures
    ∙ c.if-is_undecided.false in
    pass_over (λ (l : Line). is_undecided (kind_of l)) c.args.lines.now c.loop-line.line-index
    c.line-item.result c.line-item.result c.loop-line-test.true c.line-item.is here
    ∙ c.loop-line.invariant

pub returns : goal.returns
returns c = none_left (λ (l : Line). is_undecided (kind_of l)) c.args.lines.now
    c.loop-line.line-index c.loop-line-test.false ∙ c.loop-line.invariant
