use Rattle.std.proofs.Common.{◌≡◌, length}
use Rattle.std.specs.Iterator.Adapters.{zip_first, zip_second}
use Rattle.std.specs.List.{All}
use Rattle.std.specs.Slice.Iter.{iter_rest}
use Rattle.polygons.specs.Text.{views}
use Rattle.table_layout.specs.Values.{areas_view, layout_view}
use Rattle.reports.specs.AreaKinds.{plans}
use Rattle.area_drawings.specs.AreaLimits.{IsSmallPlan}
use Rattle.delivery.specs.AreaPolygons.{IsSkippedOrArea}
use Rattle.delivery.proofs.PolygonLemmas.{WrittenOn}
use Rattle.delivery.proofs.polygon_answers.written_areas.Given as goal

abbrev pub invariant-loop-area : goal.invariant-loop-area
invariant-loop-area l = record {
  can_next : (goal.iterator-loop-area).can_next l.area-iterator;
  is_finite : (goal.iterator-loop-area).is_finite l.area-iterator;
  same : length (iter_rest (zip_second l.area-iterator))
      ≡ length (iter_rest (zip_first l.area-iterator));
  few : All IsSmallPlan (plans (iter_rest (zip_second l.area-iterator)));
  areas : All IsSkippedOrArea (plans (iter_rest (zip_second l.area-iterator)));
  goes_on : WrittenOn (layout_view l.layout) (areas_view l.layout.areas.items) (plans l.drawings)
      (areas_view (iter_rest (zip_first l.area-iterator)))
      (plans (iter_rest (zip_second l.area-iterator))) (views l.written.items);
}
