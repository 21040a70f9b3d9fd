use Rattle.std.proofs.Common.{◌≡◌, ◌++◌}
use Rattle.std.specs.Iterator.Adapters.{zip_first, zip_second}
use Rattle.std.specs.Slice.Iter.{iter_rest}
use Rattle.table_layout.specs.Values.{areas_view, layout_view}
use Rattle.reports.specs.LineViews.{lines_of}
use Rattle.reports.specs.Outcomes.{area_lines}
use Rattle.reports.proofs.outcome.area_lines.Given as goal

abbrev pub invariant-loop-area : goal.invariant-loop-area
invariant-loop-area l = record {
  can_next : (goal.iterator-loop-area).can_next l.area-iterator;
  is_finite : (goal.iterator-loop-area).is_finite l.area-iterator;
  whole : lines_of l.lines.items ++ area_lines (layout_view l.layout)
      (areas_view (iter_rest (zip_first l.area-iterator))) (iter_rest (zip_second l.area-iterator))
      ≡ area_lines (layout_view l.layout) (areas_view l.layout.areas.items) l.answers;
}
