use Rattle.fault_lists.proofs.RingsTold.{rings_tell}
use Rattle.fault_lists.proofs.laws.numbers_tell_rings.Goals as goal

pub returns : goal.returns
returns c = λ d r out rest f sides regions faces walked.
    rings_tell d r out rest f faces sides regions walked
