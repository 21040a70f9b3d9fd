use Rattle.delivery.proofs.PutLemmas.{all_is_prefix}
use Rattle.delivery.proofs.publishing.publish.Goals as goal

pub returns-in-Ok-clause-prefix : goal.returns-in-Ok-clause-prefix
returns-in-Ok-clause-prefix g c =
    all_is_prefix (g.K.Sink.written c.args.out.now) c.args.text.now
    (g.K.Sink.written c.put.new.self) c.in-Ok.ensures.done
