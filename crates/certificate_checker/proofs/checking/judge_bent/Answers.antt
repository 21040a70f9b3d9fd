use Rattle.std.proofs.Common.{refl, true}
use Rattle.plane.specs.Rule.Plans.{plan}
use Rattle.forks.specs.Grounds.{bent}
use Rattle.certificate_checker.specs.Subjects.{claims}
use Rattle.certificate_checker.proofs.BentEdges.{bent_few}
use Rattle.certificate_checker.proofs.Grounds.{verdict_by}
use Rattle.certificate_checker.proofs.Judging.{if_ok}
use Rattle.certificate_checker.proofs.checking.judge_bent.Goals as goal

pub judge_drawing-requires : goal.judge_drawing-requires
judge_drawing-requires c =
    bent_few c.args.drawing.now.tolerance (plan c.args.drawing.now) (plan c.in_ok-copy.copy.drawing)
    c.in_ok-copy.copy.origin.items c.in_ok-copy.ensures.bent c.requires.few

pub returns : goal.returns
returns c =
    let w = c.args.drawing.now in
    let x = c.args.certificate.now in
    let b = c.in_ok-copy.copy in
    if_ok _ _ c.judge_drawing.result
    (λ v h. verdict_by w.tolerance (plan w) true (claims x) (plan b.drawing) b.origin.items
    (bent refl c.in_ok-copy.ensures.bent) v h) c.judge_drawing.ensures
