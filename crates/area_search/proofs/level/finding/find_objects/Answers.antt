use Rattle.std.proofs.Common.{List, subst}
use Rattle.plane.specs.Rule.Plans.{plan}
use Rattle.plane.specs.declared.kinds.Point.{Point}
use Rattle.area_search.specs.declared.kinds.FoundObjects.{FoundObjects}
use Rattle.area_search.specs.Grounds.{IsAnswerBy}
use Rattle.area_search.specs.Level.LevelAnswers.{AreShown}
use Rattle.area_search.specs.Regions.{AreRegions, IsFoundBy, IsFoundOfSettled}
use Rattle.area_search.proofs.Regions.{settled_found, where_ok}
use Rattle.area_search.proofs.level.finding.find_objects.Goals as goal

pub answer_of_level-requires-clause-found : goal.answer_of_level-requires-clause-found
answer_of_level-requires-clause-found c =
    subst (AreShown (plan c.args.drawing.now)) c.in-Settled.is c.in_ok-found.ensures

pub returns-in-Settled-clause-answer : goal.returns-in-Settled-clause-answer
returns-in-Settled-clause-answer c =
    let d = plan c.args.drawing.now in
    let t = c.args.drawing.now.tolerance in
    let ps = c.args.places.now in
    where_ok (IsFoundOfSettled d ps) (λ (f : FoundObjects). IsAnswerBy t d f.answer)
    c.answer_of_level.result (λ f h. (settled_found t d ps f h).answer) c.answer_of_level.ensures

pub returns-in-Settled-clause-regions : goal.returns-in-Settled-clause-regions
returns-in-Settled-clause-regions c =
    let d = plan c.args.drawing.now in
    let t = c.args.drawing.now.tolerance in
    let ps = c.args.places.now in
    where_ok (IsFoundOfSettled d ps) (AreRegions t d ps) c.answer_of_level.result
    (λ f h. (settled_found t d ps f h).regions) c.answer_of_level.ensures

pub returns-in-Unsettled-None-clause-answer : goal.returns-in-Unsettled-None-clause-answer
returns-in-Unsettled-None-clause-answer c =
    let d = plan c.args.drawing.now in
    let t = c.args.drawing.now.tolerance in
    where_ok (IsFoundBy t d c.args.places.now) (λ (f : FoundObjects). IsAnswerBy t d f.answer)
    c.answer_unsettled.result (λ f h. h.answer) c.answer_unsettled.ensures

pub returns-in-Unsettled-None-clause-regions : goal.returns-in-Unsettled-None-clause-regions
returns-in-Unsettled-None-clause-regions c =
    let d = plan c.args.drawing.now in
    let t = c.args.drawing.now.tolerance in
    let ps = c.args.places.now in
    where_ok (IsFoundBy t d ps) (AreRegions t d ps) c.answer_unsettled.result (λ f h. h.regions)
    c.answer_unsettled.ensures

pub returns-in-Unsettled-Some-clause-answer : goal.returns-in-Unsettled-Some-clause-answer
returns-in-Unsettled-Some-clause-answer c =
    let d = plan c.args.drawing.now in
    let t = c.args.drawing.now.tolerance in
    let ps = c.args.places.now in
    where_ok (λ (f : FoundObjects). (qs : List Point) → IsFoundBy t d qs f)
    (λ (f : FoundObjects). IsAnswerBy t d f.answer) c.answer_at_fault.result
    (λ f h. (h ps).answer) c.answer_at_fault.ensures

pub returns-in-Unsettled-Some-clause-regions : goal.returns-in-Unsettled-Some-clause-regions
returns-in-Unsettled-Some-clause-regions c =
    let d = plan c.args.drawing.now in
    let t = c.args.drawing.now.tolerance in
    let ps = c.args.places.now in
    where_ok (λ (f : FoundObjects). (qs : List Point) → IsFoundBy t d qs f) (AreRegions t d ps)
    c.answer_at_fault.result (λ f h. (h ps).regions) c.answer_at_fault.ensures
