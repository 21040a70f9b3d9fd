use Rattle.ports.specs.Faults.{ReadRose}
use Rattle.delivery.proofs.ValidInput.{valid_accepted}
use Rattle.delivery.proofs.laws.valid_is_accepted.Goals as goal

pub returns : goal.returns
returns c files before after from upto words status p =
    valid_accepted c.verifications_agree.ensures c.answers_are_right.ensures.settled files
    (ReadRose before after) (ReadRose from upto) words p status
