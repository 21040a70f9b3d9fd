use Rattle.plane.specs.Rule.BadPairs.{IsBadPair}
use Rattle.plane.specs.Rule.Plans.{plan, curve}
use Rattle.plane.specs.Rule.Triangles.{Apart}
use Rattle.meetings.specs.CurvePairs.{IsArcPair}
use Rattle.meetings.specs.declared.pairs.BadPair.{BadPair}
use Rattle.meetings.proofs.Answering.{ok_mapped, some_mapped}
use Rattle.meetings.proofs.StraightLists.{none_of_both}
use Rattle.meetings.proofs.finding.bad_meeting.Goals as goal

pub returns-in-Some-clause-not_apart : goal.returns-in-Some-clause-not_apart
returns-in-Some-clause-not_apart c =
    let d = plan c.args.drawing.now in
    let h = rw c.in-Some.is at c.in_ok-pair.ensures.bad in
    c.bad_curves_are_not_apart.ensures (curve d c.in-Some.pair.first)
    (curve d c.in-Some.pair.second) h.bad

pub returns-in-None-clause-bad : goal.returns-in-None-clause-bad
returns-in-None-clause-bad c =
    let d = plan c.args.drawing.now in
    ok_mapped c.arc_meeting.result _ _
    (some_mapped (λ (p : BadPair). IsArcPair d p.first p.second)
    (λ (p : BadPair). IsBadPair d p.first p.second) (λ p h. h.pair)) c.arc_meeting.ensures.bad

pub returns-in-None-clause-not_apart : goal.returns-in-None-clause-not_apart
returns-in-None-clause-not_apart c =
    let d = plan c.args.drawing.now in
    let law = c.bad_curves_are_not_apart.ensures in
    ok_mapped c.arc_meeting.result _ _
    (some_mapped (λ (p : BadPair). IsArcPair d p.first p.second)
    (λ (p : BadPair). Apart (curve d p.first) (curve d p.second) → ⊥)
    (λ p h. law (curve d p.first) (curve d p.second) h.pair.bad)) c.arc_meeting.ensures.bad

pub returns-in-None-clause-none : goal.returns-in-None-clause-none
returns-in-None-clause-none c =
    let d = plan c.args.drawing.now in
    ok_mapped c.arc_meeting.result _ _
    (λ r f e. none_of_both d (c.in_ok-pair.ensures.none c.in-None.is) (f e))
    c.arc_meeting.ensures.none
