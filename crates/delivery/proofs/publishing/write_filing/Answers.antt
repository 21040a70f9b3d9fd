use Rattle.reports.specs.OutcomeViews.{text_of}
use Rattle.delivery.proofs.PutLemmas.{emptied_front, filed_after, begun_after}
use Rattle.delivery.proofs.publishing.write_filing.Goals as goal

pub returns-in_err-start-clause-begun : goal.returns-in_err-start-clause-begun
returns-in_err-start-clause-begun g c =
    emptied_front (g.S.Shelf.held c.args.shelf.now)
    (g.S.Shelf.held c.start.new.self) c.args.filing.now.name.now
    (text_of c.args.filing.now.content) c.in_err-start.ensures.failed

pub returns-clause-filed : goal.returns-clause-filed
returns-clause-filed g c =
    filed_after c.put_content.result (g.S.Shelf.held c.args.shelf.now)
    (g.S.Shelf.held c.start.new.self)
    (g.S.Shelf.held c.put_content.new.shelf) c.args.filing.now.name.now
    (text_of c.args.filing.now.content)
    c.in_ok-start.ensures.done c.put_content.ensures.done

pub returns-clause-begun : goal.returns-clause-begun
returns-clause-begun g c =
    begun_after c.put_content.result (g.S.Shelf.held c.args.shelf.now)
    (g.S.Shelf.held c.start.new.self)
    (g.S.Shelf.held c.put_content.new.shelf) c.args.filing.now.name.now
    (text_of c.args.filing.now.content)
    c.in_ok-start.ensures.done c.put_content.ensures.done c.put_content.ensures.failed
