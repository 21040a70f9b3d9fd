use Rattle.std.proofs.Common.{◌≡◌, ◌<◌, ◌≤◌, List, [], ◌∷◌, ◌++◌, Some, arith, length, ap, sym, ◌∙◌}
use Rattle.std.proofs.Common.{◌+◌, get_or, subst}
use Rattle.std.specs.Prelude.{slice_get}
use Rattle.std.proofs.lemmas.List.{length-map, map-append}
use Rattle.area_drawings.specs.AreaLimits.{IsSmallPlan}
use Rattle.area_drawings.specs.KeptViews.{HasTolerance}
use Rattle.plane.specs.Rule.Plans.{plan}
use Rattle.plane.specs.declared.drawing.Drawing.{Drawing}
use Rattle.reports.specs.AreaKinds.{plans}
use Rattle.reports.specs.AreaNames.{HasTitle}
use Rattle.reports.specs.declared.lines.AreaAnswer.{AreaAnswer}
use Rattle.table_layout.specs.Values.{area_view, layout_view}
use Rattle.table_layout.specs.declared.layouts.AreaOf.{AreaOf as CodeArea}
use Rattle.delivery.specs.AskedLinks.{all_results, results_view}
use Rattle.delivery.specs.declared.links.asked.AskedArea.{AskedArea}
use Rattle.delivery.proofs.AskedRules.{all_there, at_place, mapped_there, zip_there}
use Rattle.delivery.proofs.NamedAreas.{all_titled}
use Rattle.delivery.proofs.TestedAreas.{AreTestedTo, tested_all, tested_more}
use Rattle.delivery.proofs.links.testing.tested_answers.Goals as goal

pub tested_answer-requires-clause-names : goal.tested_answer-requires-clause-names
tested_answer-requires-clause-names c =
    let l = layout_view c.args.layout.now in
    let areas = c.args.layout.now.areas.items in
    let x = c.index.result.now in
    let n = c.loop-number.number in
    let drawn = c.requires.drawn in
    let test = c.loop-number-test.true in
    let lt : n < length areas = omega (arith, drawn, test) in
    subst (λ (y : CodeArea). HasTitle l (area_view y)) (sym c.index.ensures)
    (all_there (HasTitle l) area_view areas n x lt
    (all_titled l (λ k a e. c.area_names.ensures l k a c.requires.valid e)))

pub tested_answer-requires-clause-small : goal.tested_answer-requires-clause-small
tested_answer-requires-clause-small c =
    let x = c.index-drawings-number.result in
    subst (λ (y : Drawing). IsSmallPlan (plan y)) (sym c.index-drawings-number.is)
    (all_there IsSmallPlan plan c.args.drawings.now c.loop-number.number x c.loop-number-test.true
    c.requires.few)

pub tested_answer-requires-clause-tolerance : goal.tested_answer-requires-clause-tolerance
tested_answer-requires-clause-tolerance c =
    let l = layout_view c.args.layout.now in
    let x = c.index.result.now in
    let d = c.index-drawings-number.result in
    subst (λ (y : CodeArea). HasTolerance l (area_view y) d) (sym c.index.ensures)
    (subst (HasTolerance l
    (area_view (get_or c.args.layout.now.areas.items c.loop-number.number x)))
    (sym c.index-drawings-number.is)
    (zip_there (HasTolerance l) area_view c.args.layout.now.areas.items c.args.drawings.now
    c.loop-number.number x d c.loop-number-test.true c.requires.tolerances))

pub loop-number-preserved : goal.loop-number-preserved
loop-number-preserved c =
    let l = layout_view c.args.layout.now in
    let areas = c.args.layout.now.areas.items in
    let ds = c.args.drawings.now in
    let as_ = c.args.asked.now in
    let n = c.loop-number.number in
    let a = c.index.result.now in
    let d = c.index-drawings-number.result in
    let q = c.index-asked-number.result in
    let x = c.in_ok-tested.tested in
    let before = c.loop-number.areas.items in
    let found = c.loop-number.results.items in
    let drawn = c.requires.drawn in
    let many = c.requires.asked in
    let test = c.loop-number-test.true in
    let area : slice_get l.areas n ≡ Some (area_view a) =
    subst (λ (y : CodeArea). slice_get l.areas n ≡ Some (area_view y)) (sym c.index.ensures)
    (mapped_there area_view areas n a (omega (arith, drawn, test))) in
    let drawing : slice_get (plans ds) n ≡ Some (plan d) =
    subst (λ (y : Drawing). slice_get (plans ds) n ≡ Some (plan y))
    (sym c.index-drawings-number.is) (mapped_there plan ds n d test) in
    let asks : slice_get as_ n ≡ Some q =
    subst (λ (y : AskedArea). slice_get as_ n ≡ Some y) (sym c.index-asked-number.is)
    (at_place as_ n q (omega (arith, drawn, many, test))) in
    let more =
    tested_more l (plans ds) as_ n before (all_results found) c.loop-number.invariant (area_view a)
    (plan d) q x.area c.in_ok-tested.ensures.0 (results_view x.results) area drawing asks
    c.in_ok-tested.ensures.1 in
    let results : all_results c.push-in-loop-number.new.self.items
    ≡ all_results found ++ results_view x.results ∷ [] =
    ap all_results c.in_ok-push-2.ensures.items ∙ map-append results_view found (x.results ∷ []) in
    subst (λ (xs : List AreaAnswer). AreTestedTo l (plans ds) as_ (n + 1) xs
    (all_results c.push-in-loop-number.new.self.items)) (sym c.in_ok-push.ensures.items)
    (subst (AreTestedTo l (plans ds) as_ (n + 1) (before ++ x.area ∷ [])) (sym results) more)

pub returns : goal.returns
returns c =
    let l = layout_view c.args.layout.now in
    let ds = c.args.drawings.now in
    let n = c.loop-number.number in
    let past = c.loop-number-test.false in
    let end : n ≤ length ds = c.loop-number.auto.number-end in
    let drawn = c.requires.drawn in
    let areas = length-map c.args.layout.now.areas.items area_view in
    let plans_are = length-map ds plan in
    tested_all l (plans ds) c.args.asked.now n c.loop-number.areas.items
    (all_results c.loop-number.results.items) (omega (arith, areas, drawn, past, end))
    (omega (arith, plans_are, past, end)) c.loop-number.invariant
