use Rattle.std.proofs.Common.{rules, arith, IsTrue, false, ◌≡◌, ◌≤◌, ◌<◌, ◌*◌, length}
use Rattle.certificate_checker.specs.Cases.{judged}
use Rattle.certificate_checker.proofs.Linking.{half_within, within_half}
use Rattle.certificate_checker.proofs.ListParts.{refused, unfit}
use Rattle.certificate_checker.proofs.links.falls.Goals as goal

pub returns-then-to-case : goal.returns-then-to-case
returns-then-to-case c =
    let h : 2 * length c.args.case.now.edges.now ≤ c.args.to = search rules in
    refused (λ f. let a = within_half (judged c.args.case.now) c.args.to f.fits in
    omega (arith, a, h))

pub returns-then-not-has_label_of : goal.returns-then-not-has_label_of
returns-then-not-has_label_of c =
    let h : c.has_label_of.result ≡ false = search rules in
    refused (λ f. unfit c.has_label_of.result c.has_label_of.ensures h f.kept)

pub returns : goal.returns
returns c =
    let h : IsTrue c.has_label_of.result = search rules in
    let l : c.args.to < 2 * length c.args.case.now.edges.now = search rules in (
      (λ t. record {
        fits = half_within (judged c.args.case.now) c.args.to l;
        kept = c.has_label_of.ensures.0 h;
        less = c.is_lower.ensures.0 t;
      }),
      (λ f. c.is_lower.ensures.1 f.less),
    )
