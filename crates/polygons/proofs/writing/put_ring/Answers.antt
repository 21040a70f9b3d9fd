use Rattle.std.proofs.Common.{◌∙◌}
use Rattle.file_pages.proofs.Steps.{wrote_as, wrote_then}
use Rattle.polygons.proofs.Texts.{ring_words}
use Rattle.polygons.proofs.writing.put_ring.Goals as goal

pub returns : goal.returns
returns g c =
    wrote_as (ring_words c.args.ring.now.corners.items _ _ (c.len.ensures
    ∙ c.args.ring.now.corners.ok.0) c.deref.ensures.value)
    (wrote_then c.put.ensures
    (wrote_then c.put_count.ensures
    (wrote_then c.put_end.ensures
    c.put_corners.ensures)))
