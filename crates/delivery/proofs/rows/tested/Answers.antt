use Rattle.std.proofs.Common.{◌≡◌, ℕ, List, length, sym, ap, ◌∙◌, subst}
use Rattle.std.specs.Global.{Vec}
use Rattle.std.specs.List.{All, AllZip, flat_map}
use Rattle.std.proofs.lemmas.List.{length-map}
use Rattle.plane.specs.declared.drawing.Drawing.{Drawing}
use Rattle.table_layout.specs.Values.{area_view, layout_view}
use Rattle.area_links.specs.Views.{rule_view, rules_view}
use Rattle.reports.specs.AreaKinds.{plans}
use Rattle.reports.specs.OutcomeViews.{misplaced_view, outcome_of}
use Rattle.area_drawings.specs.AreaLimits.{IsSmallPlan}
use Rattle.area_drawings.specs.KeptViews.{HasTolerance}
use Rattle.area_drawings.proofs.FewCurves.{few_curves}
use Rattle.area_drawings.proofs.Zips.{drawn_count}
use Rattle.commands.proofs.Results.{if_ok}
use Rattle.reports.specs.Outcomes.{linked}
use Rattle.reports.specs.declared.links.Misplaced.{Misplaced as CodeMisplaced}
use Rattle.reports.specs.declared.lines.AreaAnswer.{AreaAnswer}
use Rattle.reports.specs.declared.lines.SurfaceAnswer.{SurfaceAnswer}
use Rattle.area_links.specs.declared.kinds.LinkRule.{LinkRule}
use Rattle.delivery.specs.AskedLinks.{AreTestedAnswers, all_results, rule_misplaced, rules_count}
use Rattle.delivery.specs.declared.links.asked.AskedArea.{AskedArea}
use Rattle.delivery.proofs.TestedLinks.{tested_by_rules}
use Rattle.delivery.proofs.rows.tested.Goals as goal

pub tested_answers-requires-clause-drawn : goal.tested_answers-requires-clause-drawn
tested_answers-requires-clause-drawn c =
    let k = c.requires.rows.2 in
    ap length c.deref.ensures.value
    ∙ drawn_count (layout_view c.args.layout.now) c.requires.rows.1
    c.args.layout.now.areas.items c.args.clean.now.drawings.items k.drawn

pub tested_answers-requires-clause-asked : goal.tested_answers-requires-clause-asked
tested_answers-requires-clause-asked c =
    let k = c.requires.rows.2 in
    ap length c.deref-2.ensures.value
    ∙ (k.asked.count ∙ length-map c.args.layout.now.areas.items area_view)

pub tested_answers-requires-clause-few : goal.tested_answers-requires-clause-few
tested_answers-requires-clause-few c =
    let k = c.requires.rows.2 in
    subst (λ (ds : List Drawing). All IsSmallPlan (plans ds)) (sym c.deref.ensures.value)
    (few_curves (layout_view c.args.layout.now) c.requires.rows.1
    (plans c.args.clean.now.drawings.items) k.few k.drawn)

pub tested_answers-requires-clause-tolerances : goal.tested_answers-requires-clause-tolerances
tested_answers-requires-clause-tolerances c =
    let l = layout_view c.args.layout.now in
    let k = c.requires.rows.2 in
    subst (λ (ds : List Drawing). AllZip (HasTolerance l) l.areas ds) (sym c.deref.ensures.value)
    k.tolerances

pub returns : goal.returns
returns c links rows k =
    let l = layout_view c.args.layout.now in
    let clean = c.args.clean.now in
    let rules = rules_view clean.rules.items in
    let answers = c.in_ok-answers.answers in
    let results = all_results answers.results.items in
    let found = c.in_ok-found.found in
    let t : AreTestedAnswers l (plans clean.drawings.items) clean.asked.items answers.areas.items
    results =
    subst (λ (ds : List Drawing). AreTestedAnswers l (plans ds) clean.asked.items
    answers.areas.items results) c.deref.ensures.value
    (subst (λ (xs : List AskedArea). AreTestedAnswers l (plans c.deref.result.now) xs
    answers.areas.items results) c.deref-2.ensures.value c.in_ok-answers.ensures) in
    let misplaced : misplaced_view found.misplaced.items
    ≡ flat_map (rule_misplaced clean.asked.items results) rules =
    c.in_ok-found.ensures.misplaced
    ∙ (ap (λ (rs : List LinkRule). flat_map (rule_misplaced c.deref-4.result.now
    (all_results c.deref-5.result.now)) (rules_view rs)) c.deref-3.ensures.value
    ∙ (ap (λ (xs : List AskedArea). flat_map (rule_misplaced xs
    (all_results c.deref-5.result.now)) rules) c.deref-4.ensures.value
    ∙ ap (λ (rs : List (Vec (Vec ℕ))). flat_map (rule_misplaced clean.asked.items
    (all_results rs)) rules) c.deref-5.ensures.value)) in
    let pairs : found.pairs ≡ rules_count clean.asked.items rules =
    c.in_ok-found.ensures.pairs
    ∙ (ap (λ (rs : List LinkRule). rules_count c.deref-4.result.now (rules_view rs))
    c.deref-3.ensures.value
    ∙ ap (λ (xs : List AskedArea). rules_count xs rules) c.deref-4.ensures.value) in
    let many : c.len.result ≡ length rules =
    c.len.ensures ∙ (clean.rules.ok.0 ∙ sym (length-map clean.rules.items rule_view)) in
    if_ok _ _ c.linked.result
    (λ o h.
    let is =
    h
    ∙ (ap (λ (ss : List SurfaceAnswer). linked l clean.objects ss c.deref-7.result.now
    (misplaced_view c.deref-8.result.now) c.len.result found.pairs) c.deref-6.ensures.value
    ∙ (ap (λ (xs : List AreaAnswer). linked l clean.objects clean.surfaces.items xs
    (misplaced_view c.deref-8.result.now) c.len.result found.pairs) c.deref-7.ensures.value
    ∙ ap (λ (ms : List CodeMisplaced). linked l clean.objects clean.surfaces.items
    answers.areas.items (misplaced_view ms) c.len.result found.pairs)
    c.deref-8.ensures.value)) in
    tested_by_rules l links rows (plans clean.drawings.items) clean.surfaces.items rules
    clean.asked.items answers.areas.items results k.drawn k.surfaces_answered k.rules_are k.asked t
    clean.objects found.pairs c.len.result (misplaced_view found.misplaced.items) (outcome_of o)
    k.count misplaced pairs many is)
    c.linked.ensures
