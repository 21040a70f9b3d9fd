use Rattle.file_pages.proofs.Steps.{wrote_then, wrote_as}
use Rattle.certificate.proofs.Texts.{certificate_words}
use Rattle.certificate.proofs.writing.put_certificate.Goals as goal

pub returns : goal.returns
returns g c =
    wrote_as (certificate_words c.args.certificate.now
    c.deref.ensures.value c.deref-2.ensures.value c.deref-3.ensures.value)
    (wrote_then c.put_title.ensures
    (wrote_then c.put_sizes.ensures
    (wrote_then c.put_events.ensures
    (wrote_then c.put_edges.ensures
    (wrote_then c.put_places.ensures
    (c.put.ensures))))))
