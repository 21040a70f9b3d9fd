use Rattle.std.proofs.Common.{map, take}
use Rattle.std.specs.List.{AllZip}
use Rattle.plane.specs.Rule.Plans.{plan}
use Rattle.table_layout.specs.Values.{areas_view, layout_view}
use Rattle.area_drawings.specs.KeptDrawings.{IsDrawnFrom}
use Rattle.area_drawings.specs.KeptViews.{HasTolerance, kept_in}
use Rattle.area_drawings.proofs.drawing.drawings_from.Given as goal

abbrev pub invariant-loop-area : goal.invariant-loop-area
invariant-loop-area l = record {
  drawn :
      AllZip (IsDrawnFrom (layout_view l.layout) (kept_in l.tables))
      (take l.area-index (areas_view l.layout.areas.items)) (map plan l.drawings.items);
  tolerances :
      AllZip (HasTolerance (layout_view l.layout))
      (take l.area-index (areas_view l.layout.areas.items)) l.drawings.items;
}
