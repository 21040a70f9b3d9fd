use Rattle.std.proofs.Common.{subst}
use Rattle.plane.specs.Rule.Plans.{plan}
use Rattle.meetings.specs.StraightRuns.{IsStraightRun}
use Rattle.area_search.specs.declared.kinds.AreaFinding.TheVariants.{Meeting}
use Rattle.area_search.proofs.Grounds.{own_meeting}
use Rattle.area_search.proofs.Regions.{fault_found}
use Rattle.area_search.proofs.LevelLemmas.LevelSearch.{straights_clear}
use Rattle.area_search.proofs.unsettled.answer_unsettled.Goals as goal

pub answer_clear-requires-clause-straights : goal.answer_clear-requires-clause-straights
answer_clear-requires-clause-straights c =
    let run = subst (IsStraightRun (plan c.args.drawing.now)) c.in-Clear.is c.in_ok-pair.ensures in
    straights_clear (plan c.args.drawing.now) run.clear

pub returns-in-Bad : goal.returns-in-Bad
returns-in-Bad c =
    let bad = subst (IsStraightRun (plan c.args.drawing.now)) c.in-Bad.is c.in_ok-pair.ensures in
    let d = plan c.args.drawing.now in
    let t = c.args.drawing.now.tolerance in
    let p = c.in-Bad.pair in
    fault_found t d c.args.places.now c.meeting.result (Meeting p.first p.second) c.meeting.ensures
    (own_meeting t d p.first p.second bad)
