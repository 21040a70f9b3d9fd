use Rattle.forks.proofs.StayingArcs.{stays}
use Rattle.forks.proofs.laws.half_arcs_stay.Goals as goal

pub returns : goal.returns
returns given = stays
