use Rattle.std.proofs.Common.{sym}
use Rattle.file_pages.proofs.Steps.{wrote_then}
use Rattle.certificate.proofs.writing.put_title.Goals as goal

pub returns : goal.returns
returns g c =
    rw (sym c.bytes.ensures, sym c.bytes-2.ensures, sym c.bytes-3.ensures)
    (wrote_then c.put.ensures
    (wrote_then c.put_word.ensures
    (wrote_then c.put_word-2.ensures
    (wrote_then c.put_word-3.ensures
    (c.put_end.ensures)))))
