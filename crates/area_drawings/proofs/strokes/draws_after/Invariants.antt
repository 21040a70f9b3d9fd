use Rattle.std.proofs.Common.{◌≡◌, drop, None}
use Rattle.field_values.specs.Places.{place_view}
use Rattle.itf_reader.specs.RowReadings.{vertices_view}
use Rattle.area_drawings.specs.Drawable.{rest_curves}
use Rattle.area_drawings.specs.Drawings.{curves_after}
use Rattle.area_drawings.specs.Strokes.{has_curve}
use Rattle.area_drawings.proofs.strokes.draws_after.Given as goal

abbrev pub invariant-loop-vertex : goal.invariant-loop-vertex
invariant-loop-vertex l =
    has_curve (rest_curves l.pen (vertices_view (drop l.vertex-index l.vertices)))
    ≡ has_curve (curves_after (place_view l.fn.start) None (vertices_view l.vertices))
