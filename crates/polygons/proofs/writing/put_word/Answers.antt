use Rattle.file_pages.proofs.Steps.{wrote_then}
use Rattle.polygons.proofs.writing.put_word.Goals as goal

pub returns : goal.returns
returns g c =
    wrote_then c.put_byte.ensures c.put.ensures
