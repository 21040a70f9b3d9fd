use Rattle.file_pages.proofs.Steps.{wrote_as, wrote_then}
use Rattle.polygons.proofs.Texts.{counted_words}
use Rattle.polygons.proofs.writing.put_counted.Goals as goal

pub returns : goal.returns
returns g c =
    wrote_as (counted_words c.args.objects.now)
    (wrote_then c.put_count.ensures
    (wrote_then c.put_end.ensures
    c.put_objects.ensures))
