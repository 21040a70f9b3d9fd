use Rattle.std.proofs.Common.{◌≡◌, ◌+◌, ◌≤◌, ◌++◌, drop, vec_len}
use Rattle.resolver.specs.Values.{line_of}
use Rattle.area_drawings.specs.Drawings.{IsWindowOf}
use Rattle.area_drawings.specs.Strokes.{strokes_curves, strokes_view, vertices_of}
use Rattle.area_drawings.proofs.strokes.draw_strokes.Given as goal

abbrev pub invariant-loop-stroke : goal.invariant-loop-stroke
invariant-loop-stroke l = record {
  curves : l.drawing.curves.items ++ strokes_curves (strokes_view (drop l.stroke-index l.strokes))
      ≡ strokes_curves (strokes_view l.strokes);
  window : IsWindowOf (line_of l.form).window l.drawing.window;
  few : vec_len l.drawing.curves + vertices_of (strokes_view (drop l.stroke-index l.strokes))
      ≤ vertices_of (strokes_view l.strokes);
}
