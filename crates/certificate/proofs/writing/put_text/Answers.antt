use Rattle.std.proofs.Common.{length, refl}
use Rattle.file_pages.proofs.Steps.{wrote_then, wrote_as}
use Rattle.certificate.proofs.Texts.{text_words}
use Rattle.certificate.proofs.writing.put_text.Goals as goal

pub returns : goal.returns
returns g c =
    wrote_as (text_words c.args.all.now (length c.args.all.now) refl)
    (wrote_then c.put.ensures
    (wrote_then c.put-2.ensures
    (wrote_then c.put_number.ensures
    (wrote_then c.put_end.ensures
    (c.put_certificates.ensures)))))
