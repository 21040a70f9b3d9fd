use Rattle.file_pages.proofs.Steps.{wrote_nothing, wrote_more, wrote_all}
use Rattle.certificate.specs.Spelling.{place_line}
use Rattle.certificate.proofs.writing.put_places.Goals as goal

pub loop-place-init : goal.loop-place-init
loop-place-init g c = wrote_nothing

pub loop-place-preserved : goal.loop-place-preserved
loop-place-preserved g c =
    wrote_more place_line c.args.places.now c.loop-place.place-index _
    c.loop-place-test.true c.loop-place.invariant c.put_place.ensures

pub returns : goal.returns
returns g c =
    wrote_all place_line c.args.places.now c.loop-place.place-index
    c.loop-place-test.false c.loop-place.invariant
