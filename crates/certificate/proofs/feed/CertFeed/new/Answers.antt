use Rattle.certificate.proofs.ListLaws.{list_is_read}
use Rattle.certificate.proofs.feed.CertFeed.new.Goals as goal

pub returns-clause-gives : goal.returns-clause-gives
returns-clause-gives c = λ bytes. rw c.new.ensures.items (list_is_read bytes)
