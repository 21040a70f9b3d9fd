use Rattle.std.proofs.Common.{List, ℕ, length, arith, ◌<◌, ◌^◌, ap, sym, ◌∙◌, subst}
use Rattle.plane.specs.Rule.Plans.{plan}
use Rattle.plane.specs.declared.kinds.Curve.{Curve}
use Rattle.meetings.specs.CurveBoxes.{AreReachesTo}
use Rattle.area_faults.specs.MeetingMarks.{AreMeetingMarks}
use Rattle.area_faults.specs.Meetings.{AreEntries}
use Rattle.area_faults.proofs.MeetingLists.{all_meetings, bad_is_near, many_meetings}
use Rattle.area_faults.proofs.meeting_lists.all_meetings.Goals as goal

pub all-requires-clause-near : goal.all-requires-clause-near
all-requires-clause-near c = λ i j o l p.
    let w = c.args.drawing.now in
    let r = subst (λ (cs : List Curve). AreReachesTo cs (length cs) c.in_ok-boxes.boxes.items)
    c.deref.ensures.value c.in_ok-boxes.ensures in
    bad_is_near (plan w) c.deref-2.result.now c.deref-3.result.now
    (subst (AreReachesTo w.curves.items (length w.curves.items))
    (sym c.deref-2.ensures.value) r)
    (subst (AreMeetingMarks (plan w)) (sym c.deref-3.ensures.value) c.in_ok-marks.ensures)
    c.boxes_of_bad_curves_meet.ensures.bad i j p

pub returns-then-pairs : goal.returns-then-pairs
returns-then-pairs c =
    let w = c.args.drawing.now in
    let few = w.few_curves in
    let small : length w.curves.items < 2 ^ 32 = omega (arith, few) in
    let size = ap length c.deref-2.ensures.value ∙ c.in_ok-boxes.ensures.size
    ∙ ap length c.deref.ensures.value in
    let of = subst (λ (cs : List ℕ). AreEntries (plan w) cs c.in_ok-meetings.meetings.items)
    c.deref-4.ensures.value c.in_ok-meetings.ensures in
    all_meetings (plan w) small (length c.deref-2.result.now) size c.in_ok-pairs.pairs
    c.in_ok-pairs.ensures.pairs c.in_ok-meetings.meetings.items of c.if-pairs.true

pub returns : goal.returns
returns c =
    let w = c.args.drawing.now in
    let few = w.few_curves in
    let small : length w.curves.items < 2 ^ 32 = omega (arith, few) in
    let size = ap length c.deref-2.ensures.value ∙ c.in_ok-boxes.ensures.size
    ∙ ap length c.deref.ensures.value in
    let of = subst (λ (cs : List ℕ). AreEntries (plan w) cs c.in_ok-meetings.meetings.items)
    c.deref-4.ensures.value c.in_ok-meetings.ensures in
    many_meetings (plan w) small (length c.deref-2.result.now) size c.in_ok-pairs.pairs
    c.in_ok-pairs.ensures.pairs c.in_ok-meetings.meetings.items of
    (c.in_ok-pairs.ensures.many c.if-pairs.false)
