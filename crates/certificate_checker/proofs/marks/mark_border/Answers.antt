use Rattle.certificate_checker.proofs.Marking.{highest_marked, lowest_marked}
use Rattle.certificate_checker.proofs.marks.mark_border.Goals as goal

pub returns-in-None-Some : goal.returns-in-None-Some
returns-in-None-Some c =
    lowest_marked _ _ c.in-None-Some.e _ _ c.in-None-Some.is-0 c.in-None-Some.is-1 c.mark.ensures

pub returns-in-Some-None : goal.returns-in-Some-None
returns-in-Some-None c =
    highest_marked _ _ c.in-Some-None.d _ _ c.in-Some-None.is-0 c.in-Some-None.is-1
    c.mark-in-Some-None.ensures
