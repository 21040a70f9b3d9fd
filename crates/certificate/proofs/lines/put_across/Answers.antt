use Rattle.std.proofs.Common.{sym}
use Rattle.file_pages.proofs.Steps.{wrote_then}
use Rattle.certificate.proofs.lines.put_across.Goals as goal

pub returns : goal.returns
returns g c =
    rw (sym c.from.ensures)
    (wrote_then c.put.ensures
    (c.put_digits.ensures))
