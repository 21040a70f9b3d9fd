use Rattle.std.proofs.Common.{ℕ, Option, sym, ap, ◌∙◌}
use Rattle.itf_reader.specs.RowReadings.{vertices_view}
use Rattle.delivery.specs.ObjectLines.{added_at, object_view, objects_view, with_line}
use Rattle.delivery.proofs.KeptSteps.{changed_beyond}
use Rattle.delivery.proofs.SurfaceSteps.{line_added}
use Rattle.delivery.proofs.surfaces.add_line.Goals as goal

pub returns-in_ok-push : goal.returns-in_ok-push
returns-in_ok-push c =
    line_added c.args.objects.now c.args.row c.in-Some.place c.index-objects-place.result
    c.push.new.self c.args.line c.in-Some.is c.if-place-objects.true c.in_ok-push.ensures.items

pub returns-else-place-objects : goal.returns-else-place-objects
returns-else-place-objects c =
    changed_beyond object_view (with_line (vertices_view c.args.line.now)) c.args.objects.now
    c.in-Some.place c.if-place-objects.false
    ∙ ap (λ (r : Option ℕ). added_at r (vertices_view c.args.line.now)
    (objects_view c.args.objects.now)) (sym c.in-Some.is)
