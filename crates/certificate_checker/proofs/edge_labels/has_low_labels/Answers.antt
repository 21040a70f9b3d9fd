use Rattle.std.proofs.Common.{rules, IsTrue, false, ◌≡◌}
use Rattle.certificate_checker.specs.Cases.{judged}
use Rattle.certificate_checker.proofs.Linking.{low_is, low_no}
use Rattle.certificate_checker.proofs.ListParts.{refused, unfit}
use Rattle.certificate_checker.proofs.edge_labels.has_low_labels.Goals as goal

pub returns-then-not-is_label_low : goal.returns-then-not-is_label_low
returns-then-not-is_label_low c =
    let h : c.is_label_low.result ≡ false = search rules in
    refused (low_no (judged c.args.case.now) c.args.edge
    (unfit c.is_label_low.result c.is_label_low.ensures h))

pub returns : goal.returns
returns c =
    let h : IsTrue c.is_label_low.result = search rules in
    low_is (judged c.args.case.now) c.args.edge c.is_label_low-2.result
    (c.is_label_low.ensures.0 h) c.is_label_low-2.ensures
