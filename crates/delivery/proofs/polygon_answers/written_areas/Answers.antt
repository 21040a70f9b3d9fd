use Rattle.std.proofs.Common.{◌≡◌, List, [], ◌∷◌, ap, ◌∙◌, sym, subst, rules}
use Rattle.std.specs.List.{All}
use Rattle.plane.specs.declared.drawing.Drawing.{Drawing}
use Rattle.delivery.specs.AreaPolygons.{IsSkippedOrArea}
use Rattle.std.proofs.lemmas.List.{map-append}
use Rattle.std.proofs.lemmas.Slice.Zip.{either_empty_from_Zip, Zip-more}
use Rattle.std.specs.Iterator.Adapters.{zip_first, zip_second}
use Rattle.std.specs.Slice.Iter.{iter_rest}
use Rattle.plane.specs.Rule.Plans.{plan}
use Rattle.polygons.specs.Text.{view, views}
use Rattle.table_layout.specs.Values.{area_view, areas_view, layout_view}
use Rattle.reports.specs.AreaKinds.{plans}
use Rattle.delivery.proofs.AnswerLemmas.{both_ended, shorter_both, few_first, few_rest}
use Rattle.delivery.proofs.PolygonLemmas.{all_written, area_first, area_rest, write_first, write_on}
use Rattle.delivery.proofs.polygon_answers.written_areas.Goals as goal

pub loop-area-init : goal.loop-area-init
loop-area-init c =
    let gives = c.into_iter-area-iterator.ensures.into_iter_gives in
    let first = c.zip-area-items.ensures.first in
    let second = c.zip-area-items.ensures.second in
    let rest = c.iter.ensures.rest in
    let value = c.deref.ensures.value in
    let all : iter_rest (zip_first c.into_iter-area-iterator.result)
    ≡ c.args.layout.now.areas.items = cc in
    let drawn : iter_rest (zip_second c.into_iter-area-iterator.result)
    ≡ c.args.drawings.now = search rules in
    let l = layout_view c.args.layout.now in
    let ds = plans c.args.drawings.now in
    record {
      can_next = (tt, tt);
      is_finite = tt;
      same = search rules;
      few = search rules;
      areas = subst (λ (es : List Drawing). All IsSkippedOrArea (plans es))
          (sym drawn) c.requires.areas;
      goes_on = write_first l (areas_view c.args.layout.now.areas.items) _ ds _
          (views c.new-written.result.items) (ap areas_view all) (ap plans drawn)
          (ap views c.new-written.ensures.items);
    }

pub written_area-requires-clause-curves : goal.written_area-requires-clause-curves
written_area-requires-clause-curves c =
    let more = Zip-more c.loop-area.area-iterator c.next.new.self c.next.result _ c.in-Some.is
    c.next.ensures.steps in
    (few_first _ _ _ more.1 c.loop-area.invariant.few).curves

pub written_area-requires-clause-area : goal.written_area-requires-clause-area
written_area-requires-clause-area c =
    let more = Zip-more c.loop-area.area-iterator c.next.new.self c.next.result _ c.in-Some.is
    c.next.ensures.steps in
    area_first _ _ _ more.1 c.loop-area.invariant.areas

pub loop-area-preserved : goal.loop-area-preserved
loop-area-preserved c =
    let more = Zip-more c.loop-area.area-iterator c.next.new.self c.next.result _ c.in-Some.is
    c.next.ensures.steps in
    record {
      can_next = (tt, tt);
      is_finite = tt;
      same = shorter_both _ _ _ _ _ _ more.0 more.1 c.loop-area.invariant.same;
      few = few_rest _ _ _ more.1 c.loop-area.invariant.few;
      areas = area_rest _ _ _ more.1 c.loop-area.invariant.areas;
      goes_on = write_on (layout_view c.args.layout.now) (areas_view c.args.layout.now.areas.items)
          (areas_view (iter_rest (zip_first c.loop-area.area-iterator))) (plans c.args.drawings.now)
          (plans (iter_rest (zip_second c.loop-area.area-iterator)))
          (area_view c.in-Some.area.now) (plan c.in-Some.drawing.now)
          (areas_view (iter_rest (zip_first c.next.new.self)))
          (plans (iter_rest (zip_second c.next.new.self)))
          (views c.loop-area.written.items) (view c.in_ok-written_area.field-0)
          (views c.push.new.self.items)
          (ap areas_view more.0) (ap plans more.1) (ap views c.in_ok-push.ensures.items
          ∙ map-append view c.loop-area.written.items (c.in_ok-written_area.field-0 ∷ []))
          c.in_ok-written_area.ensures c.loop-area.invariant.goes_on;
    }

pub returns : goal.returns
returns c =
    let ended = both_ended _ _ c.loop-area.invariant.same
    (either_empty_from_Zip c.loop-area.area-iterator c.next.new.self c.next.result c.in-None.is
    c.next.ensures.steps) in
    all_written (layout_view c.args.layout.now) (areas_view c.args.layout.now.areas.items)
    (areas_view (iter_rest (zip_first c.loop-area.area-iterator))) (plans c.args.drawings.now)
    (plans (iter_rest (zip_second c.loop-area.area-iterator)))
    (views c.loop-area.written.items) (ap areas_view ended.0)
    (ap plans ended.1) c.loop-area.invariant.goes_on
