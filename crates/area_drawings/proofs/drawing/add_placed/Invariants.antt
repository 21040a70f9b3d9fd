use Rattle.std.proofs.Common.{◌≡◌, ◌+◌, ◌≤◌, ◌++◌, vec_len, take}
use Rattle.area_drawings.proofs.drawing.add_placed.Given as goal

abbrev pub invariant-loop-point : goal.invariant-loop-point
invariant-loop-point l = record {
  points : l.drawing.points.items ≡ l.fn.drawing.points.items ++ take l.point-index l.points;
  few : vec_len l.drawing.points ≤ vec_len l.fn.drawing.points + l.point-index;
  window : l.drawing.window ≡ l.fn.drawing.window;
  curves : l.drawing.curves.items ≡ l.fn.drawing.curves.items;
}
