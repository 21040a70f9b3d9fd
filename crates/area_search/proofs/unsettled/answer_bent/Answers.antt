use Rattle.std.proofs.Common.{sym, subst}
use Rattle.plane.specs.Rule.Plans.{plan}
use Rattle.level_breaks.specs.LevelLists.{AreBreaksMarked}
use Rattle.area_search.specs.Regions.{IsBentFound}
use Rattle.area_search.proofs.Regions.{undecided_found}
use Rattle.area_search.proofs.unsettled.answer_bent.Goals as goal

pub first_undecided-requires-clause-marked : goal.first_undecided-requires-clause-marked
first_undecided-requires-clause-marked c =
    subst (AreBreaksMarked (plan c.args.drawing.now) (λ n. 5)) (sym c.deref.ensures.value)
    c.requires.aside.breaks

pub returns-in-Some : goal.returns-in-Some
returns-in-Some c =
    let d = plan c.args.drawing.now in
    let t = c.args.drawing.now.tolerance in
    subst (IsBentFound t d c.args.places.now) c.in-Some.is c.in_ok-found.ensures

pub returns-in_ok-answer-in-None : goal.returns-in_ok-answer-in-None
returns-in_ok-answer-in-None c =
    let d = plan c.args.drawing.now in
    let t = c.args.drawing.now.tolerance in
    let ps = c.args.places.now in
    undecided_found t d ps c.without_regions.result c.in_ok-answer-in-None.answer
    c.without_regions.ensures c.requires.clear c.requires.unsettled
    (subst (IsBentFound t d ps) c.in-None.is c.in_ok-found.ensures)
    c.in_ok-answer-in-None.ensures
