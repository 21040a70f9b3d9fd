use Rattle.std.proofs.Common.{sym}
use Rattle.file_pages.proofs.Steps.{wrote_then}
use Rattle.certificate.proofs.writing.put_tube.Goals as goal

pub returns : goal.returns
returns g c =
    rw (sym c.from.ensures)
    (wrote_then c.put.ensures
    (wrote_then c.put_number.ensures
    (wrote_then c.put_side.ensures
    (c.put_end.ensures))))
