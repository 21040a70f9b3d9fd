use Rattle.file_pages.proofs.Steps.{wrote_all, wrote_more, wrote_nothing}
use Rattle.polygons.specs.Text.{corner_line}
use Rattle.polygons.proofs.writing.put_corners.Goals as goal

pub loop-corner-init : goal.loop-corner-init
loop-corner-init g c = wrote_nothing

pub loop-corner-preserved : goal.loop-corner-preserved
loop-corner-preserved g c =
    wrote_more corner_line c.args.corners.now c.loop-corner.corner-index _
    c.loop-corner-test.true c.loop-corner.invariant c.put_corner.ensures

pub returns : goal.returns
returns g c =
    wrote_all corner_line c.args.corners.now c.loop-corner.corner-index
    c.loop-corner-test.false c.loop-corner.invariant
