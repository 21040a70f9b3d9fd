use Rattle.plane.specs.Rule.Plans.{plan}
use Rattle.area_faults.proofs.telling.told.Goals as goal

pub returns-clause-faults : goal.returns-clause-faults
returns-clause-faults c = λ out left faces pairs.
    c.in_ok-faults.ensures.faults (plan c.args.drawing.now) (λ i. i) out c.requires.meetings
    (c.in_ok-on.ensures (plan c.args.drawing.now) out faces pairs) left faces
