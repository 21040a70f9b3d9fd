use Rattle.std.proofs.Common.{◌≡◌, ◌++◌}
use Rattle.std.specs.Iterator.Adapters.{zip_first, zip_second}
use Rattle.std.specs.Slice.Iter.{iter_rest}
use Rattle.table_layout.specs.Values.{layout_view}
use Rattle.reports.specs.LineViews.{lines_of}
use Rattle.reports.specs.Outcomes.{surface_lines}
use Rattle.reports.specs.SurfaceViews.{surfaces_view}
use Rattle.reports.proofs.surfaces.add_surface_lines.Given as goal

abbrev pub invariant-loop-surface : goal.invariant-loop-surface
invariant-loop-surface l = record {
  can_next : (goal.iterator-loop-surface).can_next l.surface-iterator;
  is_finite : (goal.iterator-loop-surface).is_finite l.surface-iterator;
  whole : lines_of l.lines.items ++ surface_lines (layout_view l.layout)
      (surfaces_view (iter_rest (zip_first l.surface-iterator)))
      (iter_rest (zip_second l.surface-iterator))
      ≡ lines_of l.fn.lines.items ++ surface_lines (layout_view l.layout)
      (surfaces_view l.surfaces) l.answers;
}
