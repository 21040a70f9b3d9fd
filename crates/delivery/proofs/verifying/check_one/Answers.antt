use Rattle.std.proofs.Common.{IfOk, subst}
use Rattle.certificate_checker.specs.Subjects.{Claims}
use Rattle.certificate_checker.specs.Verdicts.{IsVerdictBy}
use Rattle.plane.specs.Rule.Plans.{plan}
use Rattle.delivery.proofs.CertificateLemmas.{claims_paired}
use Rattle.delivery.proofs.verifying.check_one.Goals as goal

pub check-requires : goal.check-requires
check-requires c = record { few = c.requires.small.curves }

pub returns : goal.returns
returns c =
    let d = c.args.drawing.now in
    let x = c.args.certificate.now in
    subst (λ (held : Claims). IfOk c.check.result (IsVerdictBy d.tolerance (plan d) x.bent held))
    (claims_paired x c.requires.paired) c.check.ensures.verdict
