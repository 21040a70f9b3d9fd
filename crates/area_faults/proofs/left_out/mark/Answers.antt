use Rattle.area_faults.proofs.MarkedMeetings.{marked_one}
use Rattle.area_faults.proofs.left_out.mark.Goals as goal

pub returns-clause-marked : goal.returns-clause-marked
returns-clause-marked c i = marked_one c.args.marks.now c.args.curve i c.requires
