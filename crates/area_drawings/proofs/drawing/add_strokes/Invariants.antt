use Rattle.std.proofs.Common.{◌≡◌, ◌+◌, ◌≤◌, ◌++◌, vec_len, drop, length}
use Rattle.itf_reader.specs.RowReadings.{vertices_view}
use Rattle.area_drawings.specs.KeptDrawings.{AreIn, kept_curves, total}
use Rattle.area_drawings.proofs.drawing.add_strokes.Given as goal

abbrev pub invariant-loop-count : goal.invariant-loop-count
invariant-loop-count l = record {
  counted : total (drop l.count-index l.counts) ≤ length l.rest;
  inside : AreIn l.fn.drawing.window (vertices_view l.rest);
  curves : l.drawing.curves.items ++ kept_curves (drop l.count-index l.counts)
      (vertices_view l.rest) ≡ l.fn.drawing.curves.items
      ++ kept_curves l.counts (vertices_view l.vertices);
  few : vec_len l.drawing.curves + length l.rest ≤ vec_len l.fn.drawing.curves + length l.vertices;
  window : l.drawing.window ≡ l.fn.drawing.window;
  points : l.drawing.points.items ≡ l.fn.drawing.points.items;
}
