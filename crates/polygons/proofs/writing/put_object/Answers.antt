use Rattle.std.proofs.Common.{◌∙◌}
use Rattle.file_pages.proofs.Steps.{wrote_as, wrote_then}
use Rattle.polygons.proofs.Texts.{object_words}
use Rattle.polygons.proofs.writing.put_object.Goals as goal

pub returns : goal.returns
returns g c =
    wrote_as (object_words c.args.object.now _ _ _ c.from.ensures (c.len.ensures
    ∙ c.args.object.now.polygon.rings.ok.0) c.deref.ensures.value)
    (wrote_then c.put.ensures
    (wrote_then c.put_count.ensures
    (wrote_then c.put_count-2.ensures
    (wrote_then c.put_end.ensures
    c.put_rings.ensures))))
