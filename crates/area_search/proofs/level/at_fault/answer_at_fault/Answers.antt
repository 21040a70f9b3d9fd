use Rattle.area_search.specs.declared.kinds.AreaFinding.TheVariants.{Meeting}
use Rattle.plane.specs.Rule.Plans.{plan}
use Rattle.area_search.proofs.Grounds.{own_meeting}
use Rattle.area_search.proofs.Regions.{fault_found}
use Rattle.area_search.proofs.level.at_fault.answer_at_fault.Goals as goal

pub returns-then-len-gt-FEW_CURVES : goal.returns-then-len-gt-FEW_CURVES
returns-then-len-gt-FEW_CURVES c =
    let d = plan c.args.drawing.now in
    let t = c.args.drawing.now.tolerance in
    let p = c.args.pair in
    λ places. fault_found t d places c.meeting.result (Meeting p.first p.second) c.meeting.ensures
    (own_meeting t d p.first p.second c.requires)

pub returns : goal.returns
returns c =
    let d = plan c.args.drawing.now in
    let t = c.args.drawing.now.tolerance in
    let bad = rw c.in-Some.is at c.in_ok-least.ensures.bad in
    let p = c.in-Some.least in
    λ places. fault_found t d places c.meeting-in-Some.result (Meeting p.first p.second)
    c.meeting-in-Some.ensures (own_meeting t d p.first p.second bad)

pub unreachable-requires : goal.unreachable-requires
unreachable-requires c =
    c.in_ok-least.ensures.none c.in-None.is c.args.pair.first c.args.pair.second c.requires
