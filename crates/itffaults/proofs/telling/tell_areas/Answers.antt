use Rattle.std.proofs.Common.{ap, rules}
use Rattle.std.proofs.lemmas.Slice.Zip.{either_empty_from_Zip, Zip-more}
use Rattle.std.specs.Iterator.Adapters.{zip_first, zip_second}
use Rattle.std.specs.Slice.Iter.{iter_rest}
use Rattle.itffaults.specs.FaultText.Text.{tellings}
use Rattle.plane.specs.Rule.Plans.{plan}
use Rattle.reports.specs.AreaKinds.{plans}
use Rattle.table_layout.specs.Values.{area_view, areas_view, layout_view}
use Rattle.itffaults.proofs.Tellings.{all_told, both_ended, few_first, few_rest, go_on}
use Rattle.itffaults.proofs.Tellings.{shorter_both, tolerance_first, tolerance_rest}
use Rattle.itffaults.proofs.telling.tell_areas.Goals as goal

pub loop-area-init : goal.loop-area-init
loop-area-init c =
    let gives = c.into_iter-area-iterator.ensures.into_iter_gives in
    let first = c.zip-area-items.ensures.first in
    let rest = c.iter.ensures.rest in
    let value = c.deref.ensures.value in
    record {
      can_next = (tt, tt);
      is_finite = tt;
      same = search rules;
      few = search rules;
      tolerances = search rules;
      goes_on = search rules;
    }

pub tell_area-requires-clause-small : goal.tell_area-requires-clause-small
tell_area-requires-clause-small c =
    let more = Zip-more c.loop-area.area-iterator c.next.new.self c.next.result _ c.in-Some.is
    c.next.ensures.steps in
    few_first _ _ _ more.1 c.loop-area.invariant.few

pub tell_area-requires-clause-tolerance : goal.tell_area-requires-clause-tolerance
tell_area-requires-clause-tolerance c =
    let more = Zip-more c.loop-area.area-iterator c.next.new.self c.next.result _ c.in-Some.is
    c.next.ensures.steps in
    tolerance_first (layout_view c.args.layout.now) _ _ _ _ _ _ more.0 more.1
    c.loop-area.invariant.tolerances

pub loop-area-preserved : goal.loop-area-preserved
loop-area-preserved c =
    let l = layout_view c.args.layout.now in
    let more = Zip-more c.loop-area.area-iterator c.next.new.self c.next.result _ c.in-Some.is
    c.next.ensures.steps in
    record {
      can_next = (tt, tt);
      is_finite = tt;
      same = shorter_both _ _ _ _ _ _ more.0 more.1 c.loop-area.invariant.same;
      few = few_rest _ _ _ more.1 c.loop-area.invariant.few;
      tolerances = tolerance_rest l _ _ _ _ _ _ more.0 more.1 c.loop-area.invariant.tolerances;
      goes_on = go_on l (areas_view c.args.layout.now.areas.items)
          (areas_view (iter_rest (zip_first c.loop-area.area-iterator))) (plans c.args.drawings.now)
          (plans (iter_rest (zip_second c.loop-area.area-iterator)))
          (area_view c.in-Some.area.now) (plan c.in-Some.drawing.now)
          (areas_view (iter_rest (zip_first c.next.new.self)))
          (plans (iter_rest (zip_second c.next.new.self)))
          c.loop-area.areas.items c.in_ok-tell_area.field-0 c.push.new.self.items
          (ap areas_view more.0) (ap plans more.1) c.in_ok-push.ensures.items
          c.in_ok-tell_area.ensures c.loop-area.invariant.goes_on;
    }

pub returns : goal.returns
returns c =
    let ended = both_ended _ _ c.loop-area.invariant.same
    (either_empty_from_Zip c.loop-area.area-iterator c.next.new.self c.next.result c.in-None.is
    c.next.ensures.steps) in
    all_told (layout_view c.args.layout.now) (areas_view c.args.layout.now.areas.items)
    (areas_view (iter_rest (zip_first c.loop-area.area-iterator))) (plans c.args.drawings.now)
    (plans (iter_rest (zip_second c.loop-area.area-iterator)))
    (tellings c.loop-area.areas.items) (ap areas_view ended.0)
    (ap plans ended.1) c.loop-area.invariant.goes_on
