use Rattle.std.proofs.Common.{ap, sym}
use Rattle.file_pages.proofs.Steps.{wrote_all, wrote_as, wrote_more, wrote_nothing}
use Rattle.polygons.specs.declared.areas.ObjectPolygon.{ObjectPolygon}
use Rattle.polygons.specs.Text.{object_text, object_view}
use Rattle.polygons.proofs.Texts.{flat_mapped}
use Rattle.polygons.proofs.writing.put_objects.Goals as goal

pub loop-object-init : goal.loop-object-init
loop-object-init g c = wrote_nothing

pub loop-object-preserved : goal.loop-object-preserved
loop-object-preserved g c =
    wrote_more (λ (o : ObjectPolygon). object_text (object_view o)) c.args.objects.now
    c.loop-object.object-index
    c.object-item.result c.loop-object-test.true c.loop-object.invariant
    (wrote_as (ap (λ (o : ObjectPolygon). object_text (object_view o)) c.object-item.is)
    c.put_object.ensures)

pub returns : goal.returns
returns g c =
    wrote_as (sym (flat_mapped object_text object_view c.args.objects.now))
    (wrote_all (λ (o : ObjectPolygon). object_text (object_view o)) c.args.objects.now
    c.loop-object.object-index
    c.loop-object-test.false c.loop-object.invariant)
