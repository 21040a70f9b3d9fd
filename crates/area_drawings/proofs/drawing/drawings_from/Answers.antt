use Rattle.std.proofs.Common.{List, ◌+◌, map, take, sym, subst}
use Rattle.std.specs.List.{All, AllZip}
use Rattle.table_layout.specs.Values.{area_view, areas_view, layout_view}
use Rattle.table_layout.specs.declared.layouts.AreaOf.{AreaOf}
use Rattle.plane.specs.Rule.Plans.{plan}
use Rattle.area_drawings.specs.KeptDrawings.{CanBeDrawn, IsDrawnFrom}
use Rattle.area_drawings.specs.KeptViews.{HasTolerance, kept_in}
use Rattle.area_drawings.proofs.Zips.{drawn_more, seen_more}
use Rattle.area_drawings.proofs.CurveLemmas.{mapped_at}
use Rattle.area_drawings.proofs.drawing.drawings_from.Goals as goal

pub drawing_from-requires : goal.drawing_from-requires
drawing_from-requires c =
    let can = CanBeDrawn (layout_view c.args.layout.now) (kept_in c.args.tables.now) in
    mapped_at area_view can c.deref-area-items.result.now c.loop-area.area-index c.area-item.result
    (subst (λ (as_ : List AreaOf). All can (map area_view as_))
    (sym c.deref-area-items.ensures.value) c.requires)
    c.loop-area-test.true c.area-item.is

pub loop-area-preserved : goal.loop-area-preserved
loop-area-preserved c =
    let v = c.deref-area-items.ensures.value in
    let l = layout_view c.args.layout.now in
    let i = c.loop-area.area-index in
    let drawn = IsDrawnFrom l (kept_in c.args.tables.now) in
    record {
      drawn =
          subst (λ (as_ : List AreaOf). AllZip drawn (take (i + 1) (areas_view as_))
          (map plan c.push.new.self.items)) v
          (drawn_more drawn c.deref-area-items.result.now i c.area-item.result
          c.loop-area.drawings.items c.push.new.self.items c.in_ok-drawing_from.field-0
          c.loop-area-test.true c.area-item.is c.in_ok-push.ensures.items
          (subst (λ (as_ : List AreaOf). AllZip drawn (take i (areas_view as_))
          (map plan c.loop-area.drawings.items)) (sym v) c.loop-area.invariant.drawn)
          c.in_ok-drawing_from.ensures.drawn);
      tolerances =
          subst (λ (as_ : List AreaOf). AllZip (HasTolerance l)
          (take (i + 1) (areas_view as_)) c.push.new.self.items) v
          (seen_more area_view (HasTolerance l) c.deref-area-items.result.now i c.area-item.result
          c.loop-area-test.true c.area-item.is
          c.loop-area.drawings.items c.push.new.self.items c.in_ok-drawing_from.field-0
          c.in_ok-push.ensures.items
          (subst (λ (as_ : List AreaOf). AllZip (HasTolerance l)
          (take i (areas_view as_)) c.loop-area.drawings.items)
          (sym v) c.loop-area.invariant.tolerances)
          c.in_ok-drawing_from.ensures.tolerance);
    }
