use Rattle.std.proofs.Common.{◌≡◌, ℤ, List, ap, sym, ◌∙◌, subst}
use Rattle.std.specs.Global.{Vec}
use Rattle.std.specs.List.{All}
use Rattle.area_links.specs.declared.kinds.LinkPair.{LinkPair}
use Rattle.plane.specs.Rule.Plans.{plan}
use Rattle.plane.specs.Rule.Windows.{IsInside}
use Rattle.plane.specs.declared.kinds.Point.{Point}
use Rattle.table_layout.specs.Values.{area_view, layout_view}
use Rattle.delivery.specs.AnswerViews.{certificates_in}
use Rattle.delivery.specs.AskedLinks.{AreResults, asked_pairs, pairs_in, results_view}
use Rattle.delivery.specs.LinkRegions.{all_inner}
use Rattle.delivery.proofs.FoundRegions.{fine_proved}
use Rattle.delivery.proofs.ToldRegions.{all_inside}
use Rattle.delivery.proofs.links.testing.tested_answer.Goals as goal

pub find_objects-requires-clause-near : goal.find_objects-requires-clause-near
find_objects-requires-clause-near c =
    let w = c.args.drawing.now.window in
    let places : c.deref-2.result.now ≡ all_inner w (asked_pairs c.args.asked.now) =
    c.deref-2.ensures.value
    ∙ (c.in_ok-places.ensures
    ∙ ap (λ (ps : List (Vec LinkPair)). all_inner w (pairs_in ps)) c.deref.ensures.value) in
    subst (λ (ps : List Point). All (IsInside w.low w.high) ps) (sym places)
    (all_inside w (asked_pairs c.args.asked.now))

pub returns : goal.returns
returns c =
    let l = layout_view c.args.layout.now in
    let a = area_view c.args.area.now in
    let t = c.args.drawing.now.tolerance in
    let d = plan c.args.drawing.now in
    let x = c.in_ok-answer.answer in
    let f = c.in_ok-found.found.answer in (
      certificates_in x.certificate,
      record {
        answer = c.in_ok-answer.ensures.answer;
        results_are = λ fine.
            let p = fine_proved l a d x.area (certificates_in x.certificate) t c.requires.tolerance
            fine c.in_ok-answer.ensures.answer (c.answers_are_right.ensures.complete t d) f
            c.in_ok-found.ensures.answer in
            subst (λ (s : ℤ). AreResults s d (asked_pairs c.args.asked.now)
            (results_view c.in_ok-results.results)) c.requires.tolerance
            (c.in_ok-results.ensures p.0 p.1);
      },
    )
