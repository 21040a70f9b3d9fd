use Rattle.std.proofs.Common.{sym}
use Rattle.file_pages.proofs.Steps.{wrote_then}
use Rattle.certificate.proofs.lines.put_note.Goals as goal

pub returns : goal.returns
returns g c =
    rw (sym c.from.ensures, sym c.from-2.ensures)
    (wrote_then c.put_number.ensures
    (wrote_then c.put_link.ensures
    (c.put_number-2.ensures)))
