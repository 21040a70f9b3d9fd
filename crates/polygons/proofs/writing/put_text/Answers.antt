use Rattle.file_pages.proofs.Steps.{wrote_as, wrote_then}
use Rattle.polygons.proofs.Texts.{text_words}
use Rattle.polygons.proofs.writing.put_text.Goals as goal

pub returns : goal.returns
returns g c =
    wrote_as (text_words c.args.areas.now)
    (wrote_then c.put.ensures
    (wrote_then c.put-2.ensures
    (wrote_then c.put_count.ensures
    (wrote_then c.put_end.ensures
    (wrote_then c.put_areas.ensures
    c.put-3.ensures)))))
