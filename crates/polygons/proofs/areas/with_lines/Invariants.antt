use Rattle.std.proofs.Common.{◌≡◌, length, map, ◌++◌}
use Rattle.std.specs.Slice.Iter.{iter_rest}
use Rattle.polygons.specs.Outlines.{outlines}
use Rattle.polygons.specs.Text.{object_view, with_lines}
use Rattle.polygons.proofs.areas.with_lines.Given as goal

-- the rest is put behind
abbrev pub invariant-loop-point : goal.invariant-loop-point
invariant-loop-point l = record {
  can_next : (goal.iterator-loop-point).can_next l.point-iterator;
  is_finite : (goal.iterator-loop-point).is_finite l.point-iterator;
  count : length (iter_rest l.point-iterator.a) ≡ l.point-iterator.b.rest.len;
  goes_on : map object_view l.objects.items
      ++ with_lines (iter_rest l.point-iterator.a) (outlines l.point-iterator.b.rest.items)
      ≡ with_lines l.points (outlines l.fn.polygons.items);
}
