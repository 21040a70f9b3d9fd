use Rattle.std.proofs.Common.{arith}
use Rattle.file_pages.specs.Writing.{sight, Appends}
use Rattle.file_pages.proofs.Steps.{appends}
use Rattle.polygons.specs.Text.{polygons_text, views}
use Rattle.polygons.proofs.writing.write_polygons.Given as given
use Rattle.polygons.proofs.writing.write_polygons.Goals as goal

whole : (g : given.Over) (c : goal.After-finish g)
    → Appends c.args.name.now (polygons_text (views c.args.areas.now))
    (sight (g.S.Shelf.held c.args.shelf.now) (g.S.Shelf.space c.args.shelf.now c.args.name.now)
    (g.S.Shelf.read_faults c.args.shelf.now) (g.S.Shelf.write_faults c.args.shelf.now))
    c.finish.result
    (sight (g.S.Shelf.held c.finish.new.shelf) (g.S.Shelf.space c.finish.new.shelf c.args.name.now)
    (g.S.Shelf.read_faults c.finish.new.shelf) (g.S.Shelf.write_faults c.finish.new.shelf))
whole g c =
    appends c.finish.result c.new-page.ensures.failed c.new-page.ensures.waits (omega arith)
    c.put_text.ensures c.finish.ensures

pub returns-clause-done : goal.returns-clause-done
returns-clause-done g c = (whole g c).done

pub returns-clause-failed : goal.returns-clause-failed
returns-clause-failed g c = (whole g c).failed

pub returns-clause-others : goal.returns-clause-others
returns-clause-others g c = (whole g c).others

pub returns-clause-reads : goal.returns-clause-reads
returns-clause-reads g c = (whole g c).reads

pub returns-clause-writes : goal.returns-clause-writes
returns-clause-writes g c = (whole g c).writes

pub returns-clause-cause : goal.returns-clause-cause
returns-clause-cause g c = (whole g c).cause

pub returns-clause-answers : goal.returns-clause-answers
returns-clause-answers g c = (whole g c).answers

pub returns-clause-uncounted : goal.returns-clause-uncounted
returns-clause-uncounted g c = (whole g c).uncounted
