use Rattle.std.proofs.Common.{◌≡◌, List, ap, arith, length, rules, subst, sym}
use Rattle.std.specs.List.{All, AllByRecursion}
use Rattle.certificate.specs.declared.notes.Certificate.{Certificate}
use Rattle.table_layout.specs.declared.layouts.AreaOf.{AreaOf as CodeArea}
use Rattle.reports.specs.AreaNames.{HasTitle}
use Rattle.std.proofs.lemmas.List.{length-map}
use Rattle.std.proofs.lemmas.Slice.Zip.{either_empty_from_Zip, Zip-more}
use Rattle.std.specs.Iterator.Adapters.{zip_first, zip_second}
use Rattle.std.specs.Slice.Iter.{iter_rest}
use Rattle.certificate.specs.Spelling.{Fits, views}
use Rattle.plane.specs.Rule.Plans.{plan}
use Rattle.table_layout.specs.Values.{area_view, areas_view, layout_view}
use Rattle.reports.specs.AreaKinds.{plans}
use Rattle.delivery.specs.AnswerViews.{certificates_in}
use Rattle.delivery.proofs.AnswerLemmas.{both_ended, shorter_both, few_first, few_rest, named_first}
use Rattle.delivery.proofs.AnswerLemmas.{named_rest, fit_more, count_more, go_on, all_answered}
use Rattle.delivery.proofs.AnswerLemmas.{tolerance_first, tolerance_rest}
use Rattle.delivery.proofs.NamedAreas.{all_titled, areas_few}
use Rattle.delivery.proofs.area_answers.answers_of.Goals as goal

pub loop-area-init : goal.loop-area-init
loop-area-init c =
    let l = layout_view c.args.layout.now in
    let gives = c.into_iter-area-iterator.ensures.into_iter_gives in
    let first = c.zip-area-items.ensures.first in
    let rest = c.iter.ensures.rest in
    let value = c.deref.ensures.value in
    let all : iter_rest (zip_first c.into_iter-area-iterator.result)
    ≡ c.args.layout.now.areas.items = cc in
    let none : length (views c.new-2.result.items)
    ≡ 0 = ap (λ (cs : List Certificate). length (views cs)) c.new-2.ensures.items in
    let many : length (iter_rest (zip_first c.into_iter-area-iterator.result))
    ≡ length c.args.layout.now.areas.items = ap length all in
    record {
      can_next = (tt, tt);
      is_finite = tt;
      same = search rules;
      names = subst (λ (as_ : List CodeArea). All (HasTitle l) (areas_view as_)) (sym all)
          (all_titled l (λ k a e. c.area_names.ensures l k a c.requires.valid e));
      few = search rules;
      tolerances = search rules;
      goes_on = search rules;
      spelt = subst (λ (cs : List Certificate). AllByRecursion Fits (views cs))
          (sym c.new-2.ensures.items) tt;
      count = omega (arith, none, many);
    }

pub answer_of-requires-clause-names : goal.answer_of-requires-clause-names
answer_of-requires-clause-names c =
    let more = Zip-more c.loop-area.area-iterator c.next.new.self c.next.result _ c.in-Some.is
    c.next.ensures.steps in
    named_first (layout_view c.args.layout.now) _ c.in-Some.area.now
    (iter_rest (zip_first c.next.new.self)) more.0 c.loop-area.invariant.names

pub answer_of-requires-clause-small : goal.answer_of-requires-clause-small
answer_of-requires-clause-small c =
    let more = Zip-more c.loop-area.area-iterator c.next.new.self c.next.result _ c.in-Some.is
    c.next.ensures.steps in
    few_first _ _ _ more.1 c.loop-area.invariant.few

pub answer_of-requires-clause-tolerance : goal.answer_of-requires-clause-tolerance
answer_of-requires-clause-tolerance c =
    let more = Zip-more c.loop-area.area-iterator c.next.new.self c.next.result _ c.in-Some.is
    c.next.ensures.steps in
    tolerance_first (layout_view c.args.layout.now) _ _ _ _ _ _ more.0 more.1
    c.loop-area.invariant.tolerances

pub loop-area-preserved : goal.loop-area-preserved
loop-area-preserved c =
    let more = Zip-more c.loop-area.area-iterator c.next.new.self c.next.result _ c.in-Some.is
    c.next.ensures.steps in
    record {
      can_next = (tt, tt);
      is_finite = tt;
      same = shorter_both _ _ _ _ _ _ more.0 more.1 c.loop-area.invariant.same;
      names = named_rest (layout_view c.args.layout.now) _ c.in-Some.area.now
          (iter_rest (zip_first c.next.new.self)) more.0 c.loop-area.invariant.names;
      few = few_rest _ _ _ more.1 c.loop-area.invariant.few;
      tolerances =
          tolerance_rest (layout_view c.args.layout.now) _ _ _ _ _ _ more.0 more.1
          c.loop-area.invariant.tolerances;
      goes_on = go_on (layout_view c.args.layout.now) (areas_view c.args.layout.now.areas.items)
          (areas_view (iter_rest (zip_first c.loop-area.area-iterator))) (plans c.args.drawings.now)
          (plans (iter_rest (zip_second c.loop-area.area-iterator)))
          (area_view c.in-Some.area.now) (plan c.in-Some.drawing.now)
          (areas_view (iter_rest (zip_first c.next.new.self)))
          (plans (iter_rest (zip_second c.next.new.self)))
          c.loop-area.answers.areas.items (views c.loop-area.answers.certificates.items)
          c.in_ok-answer_of.field-0.area (certificates_in c.in_ok-answer_of.field-0.certificate)
          c.keep.new.answers.areas.items (views c.keep.new.answers.certificates.items)
          (ap areas_view more.0) (ap plans more.1) c.in_ok-keep.ensures.areas
          c.in_ok-keep.ensures.certificates c.in_ok-answer_of.ensures.answer
          c.loop-area.invariant.goes_on;
      spelt = fit_more (views c.loop-area.answers.certificates.items)
          (certificates_in c.in_ok-answer_of.field-0.certificate)
          (views c.keep.new.answers.certificates.items)
          c.in_ok-keep.ensures.certificates c.loop-area.invariant.spelt
          c.in_ok-answer_of.ensures.spelt;
      count = count_more (length c.args.layout.now.areas.items) _ c.in-Some.area.now
          (iter_rest (zip_first c.next.new.self)) (views c.loop-area.answers.certificates.items)
          (views c.keep.new.answers.certificates.items)
          c.in_ok-answer_of.field-0.certificate more.0 c.in_ok-keep.ensures.certificates
          c.loop-area.invariant.count;
    }

pub returns-clause-answers : goal.returns-clause-answers
returns-clause-answers c =
    let ended = both_ended _ _ c.loop-area.invariant.same
    (either_empty_from_Zip c.loop-area.area-iterator c.next.new.self c.next.result c.in-None.is
    c.next.ensures.steps) in
    all_answered (layout_view c.args.layout.now) (areas_view c.args.layout.now.areas.items)
    (areas_view (iter_rest (zip_first c.loop-area.area-iterator))) (plans c.args.drawings.now)
    (plans (iter_rest (zip_second c.loop-area.area-iterator)))
    c.loop-area.answers.areas.items (views c.loop-area.answers.certificates.items)
    (ap areas_view ended.0) (ap plans ended.1) c.loop-area.invariant.goes_on

pub returns-clause-spelt : goal.returns-clause-spelt
returns-clause-spelt c =
    let few = areas_few (layout_view c.args.layout.now) c.requires.valid in (
      omega (
        arith,
        few,
        length-map c.args.layout.now.areas.items area_view,
        c.loop-area.invariant.count,
      ),
      c.loop-area.invariant.spelt,
    )
