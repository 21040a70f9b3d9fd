use Rattle.file_pages.proofs.Steps.{wrote_as, wrote_then}
use Rattle.polygons.proofs.Texts.{area_words}
use Rattle.polygons.proofs.writing.put_area.Goals as goal

pub returns : goal.returns
returns g c =
    wrote_as (area_words c.args.area.now)
    (wrote_then c.put_names.ensures c.put_rest.ensures)
