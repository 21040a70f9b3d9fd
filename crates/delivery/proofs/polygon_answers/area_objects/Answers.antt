use Rattle.std.proofs.Common.{ap, ◌∙◌, sym, refl, subst, length}
use Rattle.plane.specs.Rule.Plans.{plan}
use Rattle.delivery.specs.AreaPolygons.{IsPolygonAnswer}
use Rattle.delivery.specs.declared.polygon_answers.PolygonAnswer.TheVariants.{Skipped}
use Rattle.delivery.proofs.PolygonLemmas.{rings_size}
use Rattle.delivery.proofs.polygon_answers.area_objects.Goals as goal

pub returns-in-Skipped : goal.returns-in-Skipped
returns-in-Skipped c = (
  Skipped,
  subst (IsPolygonAnswer (plan c.args.drawing.now)) c.in-Skipped.is
      c.in_ok-area_polygons.ensures,
  refl,
)

pub with_lines-requires : goal.with_lines-requires
with_lines-requires c =
    let d = plan c.args.drawing.now in
    let h = subst (IsPolygonAnswer d) c.in-Rings.is c.in_ok-area_polygons.ensures in
    rings_size d c.in-Rings.polygons.items h.2 ∙ sym (ap length c.deref.ensures.value)
