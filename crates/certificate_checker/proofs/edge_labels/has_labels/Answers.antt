use Rattle.plane.specs.CurveRuns.TubedRuns as runs
use Rattle.certificate_checker.specs.Cases.{judged}
use Rattle.certificate_checker.specs.Subjects.{owned_of}
use Rattle.certificate_checker.proofs.ChainSides.{part_is}
use Rattle.certificate_checker.proofs.EdgeLabels.{labels_of}
use Rattle.certificate_checker.proofs.edge_labels.has_labels.Goals as goal

pub returns-in-Straight : goal.returns-in-Straight
returns-in-Straight c =
    let s = judged c.args.case.now in
    labels_of s c.args.edge runs.whole c.has_low_labels.result
    (part_is (owned_of s c.args.edge) c.args.owner runs.whole c.requires.owner c.in-Straight.is)
    c.has_low_labels.ensures

pub returns-in-Inner : goal.returns-in-Inner
returns-in-Inner c =
    let s = judged c.args.case.now in
    labels_of s c.args.edge runs.inner c.has_tube_labels.result
    (part_is (owned_of s c.args.edge) c.args.owner runs.inner c.requires.owner c.in-Inner.is)
    c.has_tube_labels.ensures

pub returns-in-Outer : goal.returns-in-Outer
returns-in-Outer c =
    let s = judged c.args.case.now in
    labels_of s c.args.edge runs.outer c.has_tube_labels-in-Outer.result
    (part_is (owned_of s c.args.edge) c.args.owner runs.outer c.requires.owner c.in-Outer.is)
    c.has_tube_labels-in-Outer.ensures
