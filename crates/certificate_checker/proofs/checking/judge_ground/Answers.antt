use Rattle.std.proofs.Common.{Bool, false, length, refl, subst, sym}
use Rattle.std.specs.List.{range_with_len}
use Rattle.std.specs.Prelude.{IfOk}
use Rattle.plane.specs.Rule.Plans.{plan}
use Rattle.tubes.proofs.EdgeWeights.{few_of_curves}
use Rattle.forks.specs.Grounds.{own}
use Rattle.certificate_checker.specs.Subjects.{claims}
use Rattle.certificate_checker.specs.Verdicts.{IsVerdictBy}
use Rattle.certificate_checker.proofs.Grounds.{verdict_by}
use Rattle.certificate_checker.proofs.Judging.{if_ok}
use Rattle.certificate_checker.proofs.checking.judge_ground.Goals as goal

pub judge_drawing-requires : goal.judge_drawing-requires
judge_drawing-requires c = few_of_curves (plan c.args.drawing.now) c.requires.few

pub returns-then-certificate : goal.returns-then-certificate
returns-then-certificate c =
    let w = c.args.drawing.now in
    let x = c.args.certificate.now in
    subst (λ (b : Bool). IfOk c.judge_bent.result
    (IsVerdictBy w.tolerance (plan w) b (claims x)))
    (sym c.if-certificate.true) c.judge_bent.ensures

pub returns-else-certificate : goal.returns-else-certificate
returns-else-certificate c =
    let w = c.args.drawing.now in
    let x = c.args.certificate.now in
    subst (λ (b : Bool). IfOk c.judge_drawing.result
    (IsVerdictBy w.tolerance (plan w) b (claims x)))
    (sym c.if-certificate.false)
    (if_ok _ _ c.judge_drawing.result
    (λ v h. verdict_by w.tolerance (plan w) false (claims x) (plan w)
    (range_with_len 0 (length w.curves.items)) (own refl refl refl) v h) c.judge_drawing.ensures)
