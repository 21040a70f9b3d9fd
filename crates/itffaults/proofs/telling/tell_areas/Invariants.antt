use Rattle.std.proofs.Common.{◌≡◌, length}
use Rattle.std.specs.Iterator.Adapters.{zip_first, zip_second}
use Rattle.std.specs.List.{All}
use Rattle.std.specs.Slice.Iter.{iter_rest}
use Rattle.area_drawings.specs.AreaLimits.{IsSmallPlan}
use Rattle.itffaults.specs.FaultText.Text.{tellings}
use Rattle.reports.specs.AreaKinds.{plans}
use Rattle.table_layout.specs.Values.{areas_view, layout_view}
use Rattle.itffaults.proofs.Tellings.{GoesOn, HaveTolerances}
use Rattle.itffaults.proofs.telling.tell_areas.Given as goal

abbrev pub invariant-loop-area : goal.invariant-loop-area
invariant-loop-area l = record {
  can_next : (goal.iterator-loop-area).can_next l.area-iterator;
  is_finite : (goal.iterator-loop-area).is_finite l.area-iterator;
  same : length (iter_rest (zip_second l.area-iterator))
      ≡ length (iter_rest (zip_first l.area-iterator));
  few : All IsSmallPlan (plans (iter_rest (zip_second l.area-iterator)));
  tolerances : HaveTolerances (layout_view l.layout) (iter_rest (zip_first l.area-iterator))
      (iter_rest (zip_second l.area-iterator));
  goes_on : GoesOn (layout_view l.layout) (areas_view l.layout.areas.items) (plans l.drawings)
      (areas_view (iter_rest (zip_first l.area-iterator)))
      (plans (iter_rest (zip_second l.area-iterator))) (tellings l.areas.items);
}
