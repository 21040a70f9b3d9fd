use Rattle.std.proofs.Common.{ℕ, ap, ◌∙◌, take}
use Rattle.itffaults.proofs.Rejections.{front_is, last_text}
use Rattle.itffaults.proofs.rejecting.without_verdict.Goals as goal

pub returns : goal.returns
returns c lines e =
    ap (λ (n : ℕ). take n c.args.report.now) c.saturating_sub.ensures
    ∙ front_is lines last_text c.args.report.now e
