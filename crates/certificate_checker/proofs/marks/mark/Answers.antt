use Rattle.certificate_checker.proofs.Marking.{mark_is}
use Rattle.certificate_checker.proofs.marks.mark.Goals as goal

pub returns : goal.returns
returns c = mark_is c.args.marks.now c.args.half c.requires
