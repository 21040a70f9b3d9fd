use Rattle.file_pages.proofs.Steps.{wrote_then, wrote_as}
use Rattle.certificate.proofs.Texts.{edge_words}
use Rattle.certificate.proofs.writing.put_edge.Goals as goal

pub returns : goal.returns
returns g c =
    wrote_as (edge_words c.args.below.now c.args.above.now)
    (wrote_then c.put.ensures
    (wrote_then c.put_note.ensures
    (wrote_then c.put_note-2.ensures
    (c.put_end.ensures))))
