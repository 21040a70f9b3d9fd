use Rattle.file_pages.proofs.Steps.{wrote_nothing, wrote_more, wrote_all}
use Rattle.certificate.specs.Spelling.{event_line}
use Rattle.certificate.proofs.writing.put_events.Goals as goal

pub loop-position-init : goal.loop-position-init
loop-position-init g c = wrote_nothing

pub loop-position-preserved : goal.loop-position-preserved
loop-position-preserved g c =
    wrote_more event_line c.args.positions.now c.loop-position.position-index _
    c.loop-position-test.true c.loop-position.invariant c.put_event.ensures

pub returns : goal.returns
returns g c =
    wrote_all event_line c.args.positions.now c.loop-position.position-index
    c.loop-position-test.false c.loop-position.invariant
