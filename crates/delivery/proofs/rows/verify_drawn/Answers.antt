use Rattle.std.proofs.Common.{ℕ, ap, ◌∙◌}
use Rattle.table_layout.specs.Values.{layout_view}
use Rattle.reports.specs.AreaKinds.{plans}
use Rattle.reports.specs.Outcomes.{verified}
use Rattle.reports.specs.VerificationViews.{verification_of}
use Rattle.commands.proofs.Results.{if_ok}
use Rattle.delivery.proofs.rows.verify_drawn.Goals as goal

pub returns : goal.returns
returns c text rows r n h =
    let l = layout_view c.args.layout.now in
    let ds = c.args.drawings.now in
    let v = verification_of c.in_ok-verification.verification in
    if_ok _ _ c.verified.result
    (λ o e. record {
      drawings = plans ds;
      verification = v;
      drawn = h;
      judged = c.in_ok-verification.ensures text r;
      is = e ∙ ap (λ (k : ℕ). verified l k (plans ds) v) n;
    })
    c.verified.ensures
