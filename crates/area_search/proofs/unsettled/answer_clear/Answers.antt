use Rattle.std.proofs.Common.{Bool, List, ℕ, sym, subst}
use Rattle.plane.specs.Rule.Plans.{plan}
use Rattle.near_pairs.specs.Boxes.{IsOneMarked}
use Rattle.meetings.specs.CurvePairs.{IsArcPair}
use Rattle.area_search.specs.declared.kinds.AreaFinding.TheVariants.{Meeting}
use Rattle.area_search.proofs.Grounds.{own_meeting}
use Rattle.area_search.proofs.Regions.{fault_found}
use Rattle.area_search.proofs.LevelLemmas.LevelSearch.{none_of_all}
use Rattle.area_search.proofs.unsettled.answer_clear.Goals as goal

pub arc_meeting_among-requires-clause-marked : goal.arc_meeting_among-requires-clause-marked
arc_meeting_among-requires-clause-marked c =
    subst (λ (ms : List Bool). (i j : ℕ) → IsArcPair (plan c.args.drawing.now) i j
    → IsOneMarked ms i j) (sym c.deref.ensures.value) c.in_ok-aside.ensures.pairs

pub returns-in-Some : goal.returns-in-Some
returns-in-Some c =
    let h = rw c.in-Some.is at c.in_ok-pair.ensures.bad in
    let d = plan c.args.drawing.now in
    let t = c.args.drawing.now.tolerance in
    let p = c.in-Some.pair in
    fault_found t d c.args.places.now c.meeting.result (Meeting p.first p.second) c.meeting.ensures
    (own_meeting t d p.first p.second h.pair)

pub answer_good-requires-clause-pairs : goal.answer_good-requires-clause-pairs
answer_good-requires-clause-pairs c =
    none_of_all (plan c.args.drawing.now) c.requires.straights
    (c.in_ok-pair.ensures.none c.in-None.is)
