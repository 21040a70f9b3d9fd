use Rattle.std.proofs.Common.{ap, sym}
use Rattle.file_pages.proofs.Steps.{wrote_all, wrote_as, wrote_more, wrote_nothing}
use Rattle.polygons.specs.declared.areas.AreaPolygons.{AreaPolygons}
use Rattle.polygons.specs.Text.{area_text, view}
use Rattle.polygons.proofs.Texts.{flat_mapped}
use Rattle.polygons.proofs.writing.put_areas.Goals as goal

pub loop-area-init : goal.loop-area-init
loop-area-init g c = wrote_nothing

pub loop-area-preserved : goal.loop-area-preserved
loop-area-preserved g c =
    wrote_more (λ (a : AreaPolygons). area_text (view a)) c.args.areas.now c.loop-area.area-index
    c.area-item.result c.loop-area-test.true c.loop-area.invariant
    (wrote_as (ap (λ (a : AreaPolygons). area_text (view a)) c.area-item.is) c.put_area.ensures)

pub returns : goal.returns
returns g c =
    wrote_as (sym (flat_mapped area_text view c.args.areas.now))
    (wrote_all (λ (a : AreaPolygons). area_text (view a)) c.args.areas.now c.loop-area.area-index
    c.loop-area-test.false c.loop-area.invariant)
