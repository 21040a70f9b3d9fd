use Rattle.std.proofs.Common.{◌≡◌, ℕ, true, List, ◌∷◌, None, Option, Some, sym, ap, ◌∙◌, subst}
use Rattle.std.specs.Option.{IfSome}
use Rattle.field_values.specs.Places.{is_same_place, place_view}
use Rattle.itf_reader.specs.RowReadings.{vertex_view}
use Rattle.itf_reader.specs.StrokeFindings.{Seen}
use Rattle.itf_reader.specs.declared.rows.values.ReadVertex.{ReadVertex}
use Rattle.plane.specs.declared.kinds.Curve.{Curve}
use Rattle.area_drawings.specs.declared.curves.Pen.{Pen}
use Rattle.area_drawings.specs.Drawable.{over_view, rest_curves}
use Rattle.area_drawings.specs.Drawings.{curves_after}
use Rattle.area_drawings.specs.Strokes.{has_curve}
use Rattle.area_drawings.proofs.StrokeCurves.{arc_two, moved_over}
use Rattle.area_drawings.proofs.strokes.moved.Goals as goal

pub returns-in-Some-clause-drawn : goal.returns-in-Some-clause-drawn
returns-in-Some-clause-drawn c vs e =
    let s = place_view c.args.pen.at in
    let v = vertex_view c.args.vertex in
    subst (λ (o : Option ReadVertex). has_curve (curves_after s (over_view o) (v ∷ vs)) ≡ true)
    (sym c.in-Some.is)
    (arc_two s (vertex_view c.in-Some.over) v (curves_after v.at None vs)
    (c.stays_over.ensures.more e))

pub returns-in-Some-clause-moved : goal.returns-in-Some-clause-moved
returns-in-Some-clause-moved c vs =
    let s = place_view c.args.pen.at in
    let v = vertex_view c.args.vertex in
    subst (λ (o : Option ReadVertex). IfSome c.stays_over.result
    (λ next. has_curve (curves_after s (over_view o) (v ∷ vs)) ≡ has_curve (rest_curves next vs)))
    (sym c.in-Some.is)
    (moved_over s c.in-Some.over c.args.vertex vs c.stays_over.result c.stays_over.ensures.one)
