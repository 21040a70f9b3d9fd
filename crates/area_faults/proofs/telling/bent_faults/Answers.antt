use Rattle.std.proofs.Common.{◌≡◌, false, length, arith, subst, sym}
use Rattle.plane.specs.Rule.Plans.{plan}
use Rattle.area_faults.proofs.ToldFaults.{bent_faults, no_meetings, none_out}
use Rattle.area_faults.proofs.telling.bent_faults.Goals as goal
use Rattle.area_faults.specs.Answers.{root}
use Rattle.area_search.proofs.Grounds.{none_bent, unsettled_bent}
use Rattle.area_search.specs.Level.LevelAnswers.{AreSettledFaces}
use Rattle.fault_lists.specs.FaultLists.{ArePointsOn}

pub returns-then-len : goal.returns-then-len
returns-then-len c =
    let d = plan c.args.drawing.now in
    let g = plan c.in_ok-copy.copy.drawing in
    let same : length g.curves ≡ length d.curves =
    omega (arith, c.if-len.true, c.len.ensures, c.len-2.ensures) in
    none_bent c.nothing_bent.ensures c.args.drawing.now.tolerance d g _ c.requires.unsettled
    c.in_ok-copy.ensures.bent same

pub settled_faces-requires : goal.settled_faces-requires
settled_faces-requires c =
    c.bent_has_few_edges.ensures c.args.drawing.now.tolerance (plan c.args.drawing.now)
    (plan c.in_ok-copy.copy.drawing) _ c.in_ok-copy.ensures.bent c.requires.curves

pub returns-in-Unsettled : goal.returns-in-Unsettled
returns-in-Unsettled c =
    let g = plan c.in_ok-copy.copy.drawing in
    let h = subst (AreSettledFaces g) c.in-Unsettled.is c.in_ok-settled_faces.ensures in
    unsettled_bent c.args.drawing.now.tolerance (plan c.args.drawing.now) g _
    c.in_ok-copy.ensures.bent h.0

pub returns-in_ok-faults-in-Settled : goal.returns-in_ok-faults-in-Settled
returns-in_ok-faults-in-Settled c =
    let d = plan c.args.drawing.now in
    let g = plan c.in_ok-copy.copy.drawing in
    let origin = root c.in_ok-copy.copy.origin.items in
    let f = c.in_ok-faults-in-Settled.faults in
    let h = subst (AreSettledFaces g) c.in-Settled.is c.in_ok-settled_faces.ensures in
    let none = c.new-meetings.ensures.items in
    bent_faults c.args.drawing.now.tolerance d g c.in_ok-copy.copy.origin.items f
    c.requires.unsettled c.in_ok-copy.ensures.bent h.settled
    (rw c.in_ok-faults-in-Settled.ensures.meetings none)
    (c.in_ok-faults-in-Settled.ensures.faults d origin (λ i. false)
    (no_meetings d c.new-meetings.result.items none c.requires.clear)
    (subst (ArePointsOn d) (sym c.in_ok-on-in-Settled.ensures.items) c.requires.on)
    (none_out g origin c.new-meetings.result.items none) h.faces)
    (c.in_ok-faults-in-Settled.ensures.rings h.rings)
    (c.in_ok-faults-in-Settled.ensures.open_rings h.rings)
