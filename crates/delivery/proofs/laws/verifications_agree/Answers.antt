use Rattle.delivery.proofs.Verifications.{verifications_agree}
use Rattle.delivery.proofs.laws.verifications_agree.Goals as goal

pub returns : goal.returns
returns c = verifications_agree (record {
  unbroken = c.proved_grounds.ensures.unproved;
  rule = c.proved_grounds.ensures.rule;
  place = c.proved_grounds.ensures.place;
})
