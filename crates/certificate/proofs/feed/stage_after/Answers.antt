use Rattle.certificate.proofs.Pieces.{fault_stays}
use Rattle.certificate.proofs.feed.stage_after.Goals as goal

pub returns-in-Ok-clause-on : goal.returns-in-Ok-clause-on
returns-in-Ok-clause-on c = λ rest m. (c.in-Ok.ensures.on rest m).0

pub returns-in_ok-text_fault-in-Err-clause-on : goal.returns-in_ok-text_fault-in-Err-clause-on
returns-in_ok-text_fault-in-Err-clause-on c =
    fault_stays c.in-Err.fault c.in_ok-text_fault-in-Err.field-0 c.args.stage
    (record {
      rest = c.args.bytes.now;
      line = c.args.line;
    }) c.in_ok-text_fault-in-Err.ensures.same
    c.in_ok-text_fault-in-Err.ensures.text c.in-Err.ensures.fails
