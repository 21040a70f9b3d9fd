use Rattle.certificate_checker.proofs.Judging.{case_broken, case_proves}
use Rattle.certificate_checker.proofs.checking.verdict_of.Goals as goal

pub returns-in-Ok : goal.returns-in-Ok
returns-in-Ok c = case_proves c.args.case.now c.requires.fit (rw c.in-Ok.is at c.requires.proved)

pub returns-in-Err : goal.returns-in-Err
returns-in-Err c =
    case_broken c.args.case.now _ _ c.requires.fit (rw c.in-Err.is at c.requires.broken)
