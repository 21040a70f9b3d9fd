use Rattle.std.proofs.Common.{rules, ◌≡◌, IsTrue, false}
use Rattle.certificate_checker.specs.Cases.{judged}
use Rattle.certificate_checker.proofs.ChainSides.{chain_arc}
use Rattle.certificate_checker.proofs.EdgeLabels.{inward_is, low_is, one_is}
use Rattle.certificate_checker.proofs.ListParts.{refused, unfit}
use Rattle.certificate_checker.proofs.edge_labels.has_tube_labels.Goals as goal

pub is_side_label-requires-clause-half_arc : goal.is_side_label-requires-clause-half_arc
is_side_label-requires-clause-half_arc c =
    chain_arc c.args.case.now c.requires.fit c.args.edge c.args.curve c.args.inside c.requires.edge
    c.requires.curve c.requires.part

pub returns-then-not-is_tube_label : goal.returns-then-not-is_tube_label
returns-then-not-is_tube_label c =
    let n : c.is_tube_label.result ≡ false = search rules in
    let f = inward_is (judged c.args.case.now) c.args.edge c.within.result c.args.curve
    c.is_tube_label.result c.within.ensures.half c.requires.curve c.is_tube_label.ensures in
    refused (λ x. unfit c.is_tube_label.result f n x.inward)

pub returns-then-not-is_label_low : goal.returns-then-not-is_label_low
returns-then-not-is_label_low c =
    let n : c.is_label_low.result ≡ false = search rules in
    let f = low_is (judged c.args.case.now) c.args.edge c.outside-outside.result
    c.is_label_low.result c.outside-outside.ensures.half c.is_label_low.ensures in
    refused (λ x. unfit c.is_label_low.result f n x.low)

pub returns : goal.returns
returns c =
    let s = judged c.args.case.now in
    let a : IsTrue c.is_tube_label.result = search rules in
    let b : IsTrue c.is_label_low.result = search rules in
    let f = inward_is s c.args.edge c.within.result c.args.curve c.is_tube_label.result
    c.within.ensures.half c.requires.curve c.is_tube_label.ensures in
    let g = low_is s c.args.edge c.outside-outside.result c.is_label_low.result
    c.outside-outside.ensures.half c.is_label_low.ensures in
    let h = one_is s c.args.edge c.outside-outside.result c.args.curve c.args.inside
    c.is_side_label.result c.outside-outside.ensures.half c.requires.curve
    c.is_side_label.ensures in
    ((λ t. record { inward = f.0 a; low = g.0 b; one = h.0 t }), (λ x. h.1 x.one))
