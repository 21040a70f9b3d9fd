use Rattle.std.proofs.Common.{◌≡◌, ℕ, ap, ◌∙◌, length, rules, vec_len}
use Rattle.itffaults.specs.FaultText.Text.{rejected_text}
use Rattle.itffaults.proofs.Rejections.{all_told}
use Rattle.itffaults.proofs.rejecting.tell_rejection.Goals as goal

pub returns : goal.returns
returns c ls e =
    let findings = c.args.outcome.now.findings in
    let count : vec_len findings ≡ length findings.items = search rules in
    all_told c.args.outcome.now ls e c.in_ok-report.report.items c.without_verdict.result.now
    c.in_ok-text.text c.in_ok-report.ensures
    (λ lines h. c.without_verdict.ensures lines (c.deref.ensures.value ∙ h))
    (c.in_ok-text.ensures
    ∙ ap (λ (n : ℕ). rejected_text n c.without_verdict.result.now) (c.len.ensures ∙ count))
