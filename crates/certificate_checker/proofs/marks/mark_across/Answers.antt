use Rattle.certificate_checker.proofs.Marking.{both_marked}
use Rattle.certificate_checker.proofs.marks.mark_across.Goals as goal

pub returns : goal.returns
returns c = both_marked c.args.notes.now _ _ c.in-Some-Some.d c.in-Some-Some.e _
    c.mark_named.new.across _ c.in-Some-Some.is-0 c.in-Some-Some.is-1 c.mark_named.ensures
    c.mark_named-2.ensures
