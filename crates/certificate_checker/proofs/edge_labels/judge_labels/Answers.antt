use Rattle.std.proofs.Common.{rules, arith, ap, IsTrue, false, ◌≡◌, ◌<◌, ◌≤◌, length, below_more}
use Rattle.tubes.specs.declared.kinds.Owner.{Owner}
use Rattle.certificate_checker.specs.Cases.{judged}
use Rattle.certificate_checker.proofs.Ending.{first_unlabelled}
use Rattle.certificate_checker.proofs.ListParts.{unfit}
use Rattle.certificate_checker.proofs.edge_labels.judge_labels.Goals as goal

pub loop-e-preserved : goal.loop-e-preserved
loop-e-preserved c =
    let h : IsTrue c.has_labels.result = search rules in
    below_more _ _ c.loop-e.invariant (c.has_labels.ensures.0 h)

pub returns-then-not-has_labels-clause-broken : goal.returns-then-not-has_labels-clause-broken
returns-then-not-has_labels-clause-broken c =
    let h : c.has_labels.result ≡ false = search rules in
    let l : c.loop-e.e < length c.args.case.now.edges.now = search rules in
    first_unlabelled (judged c.args.case.now) c.requires.fit.table c.requires.fit.counts
    c.requires.fit.corners c.requires.passed c.loop-e.e _ l
    (ap (λ (o : Owner). o.curve) c.owner_of-owner.ensures) c.loop-e.invariant
    (unfit c.has_labels.result c.has_labels.ensures h)

pub returns-clause-labels : goal.returns-clause-labels
returns-clause-labels c =
    let w : length c.args.case.now.edges.now ≤ c.loop-e.e = search rules in
    λ e l. c.loop-e.invariant e (omega (arith, l, w))
