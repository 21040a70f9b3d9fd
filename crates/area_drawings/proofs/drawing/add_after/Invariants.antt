use Rattle.std.proofs.Common.{◌≡◌, ◌+◌, ◌≤◌, ◌++◌, vec_len, drop, None}
use Rattle.field_values.specs.Places.{place_view}
use Rattle.itf_reader.specs.RowReadings.{vertices_view}
use Rattle.area_drawings.specs.Drawable.{IsPenIn, rest_curves, waiting}
use Rattle.area_drawings.specs.Drawings.{curves_after}
use Rattle.area_drawings.proofs.drawing.add_after.Given as goal

abbrev pub invariant-loop-vertex : goal.invariant-loop-vertex
invariant-loop-vertex l = record {
  curves : l.drawing.curves.items ++ rest_curves l.pen
      (vertices_view (drop l.vertex-index l.vertices))
      ≡ l.fn.drawing.curves.items ++ curves_after (place_view l.fn.start) None
      (vertices_view l.vertices);
  pen_in : IsPenIn l.fn.drawing.window l.pen;
  few : vec_len l.drawing.curves + waiting l.pen.over ≤ vec_len l.fn.drawing.curves
      + l.vertex-index;
  window : l.drawing.window ≡ l.fn.drawing.window;
  points : l.drawing.points.items ≡ l.fn.drawing.points.items;
}
