use Rattle.std.proofs.Common.{ap, sym, ◌∙◌, length}
use Rattle.itf_reader.specs.RowReadings.{vertices_view}
use Rattle.ident_refs.specs.KeptViews.{named_view}
use Rattle.area_drawings.specs.KeptDrawings.{cut}
use Rattle.delivery.specs.ObjectLines.{named_rows}
use Rattle.delivery.proofs.SurfaceSteps.{objects_size}
use Rattle.delivery.proofs.surfaces.lines_answer.Goals as goal

pub boundaries_answer-requires-clause-lines : goal.boundaries_answer-requires-clause-lines
boundaries_answer-requires-clause-lines c =
    objects_size c.in_ok-own.own.items (named_rows (named_view c.args.named.now))
    (cut c.counts.result.now (vertices_view c.vertices.result.now)) (length c.args.objects.now)
    c.in_ok-own.ensures
    ∙ sym (ap length c.deref.ensures.value)
