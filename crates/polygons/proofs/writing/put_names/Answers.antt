use Rattle.file_pages.proofs.Steps.{wrote_then}
use Rattle.std.proofs.Common.{sym}
use Rattle.polygons.proofs.writing.put_names.Goals as goal

pub returns : goal.returns
returns g c =
    rw (sym c.bytes.ensures, sym c.bytes-2.ensures, sym c.bytes-3.ensures)
    (wrote_then c.put.ensures
    (wrote_then c.put_word.ensures
    (wrote_then c.put_word-2.ensures
    c.put_word-3.ensures)))
