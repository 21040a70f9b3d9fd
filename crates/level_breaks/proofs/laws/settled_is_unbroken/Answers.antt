use Rattle.level_breaks.proofs.Unbroken.{unbroken}
use Rattle.level_breaks.proofs.laws.settled_is_unbroken.Goals as goal

pub returns : goal.returns
returns c d level i j s =
    unbroken d level s c.meetings_are_decided.ensures.apart c.meetings_are_decided.ensures.touch i j
