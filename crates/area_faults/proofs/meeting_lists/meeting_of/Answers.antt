use Rattle.std.proofs.Common.{List, length, arith, ◌<◌, ◌^◌, ◌/◌, ◌%◌, sym, subst}
use Rattle.plane.specs.Rule.BadPairs.{AreBad}
use Rattle.plane.specs.Rule.Plans.{plan}
use Rattle.plane.specs.declared.kinds.Curve.{Curve}
use Rattle.meetings.specs.StraightEdges.{curve_of}
use Rattle.fault_lists.specs.FaultLists.{IsMeetingPlace}
use Rattle.area_faults.proofs.MeetingLists.{code_pair}
use Rattle.area_faults.proofs.meeting_lists.meeting_of.Goals as goal

pub meeting_place-requires-clause-bad : goal.meeting_place-requires-clause-bad
meeting_place-requires-clause-bad c =
    let w = c.args.drawing.now in
    let few = w.few_curves in
    let small : length w.curves.items < 2 ^ 32 = omega (arith, few) in
    subst (λ (cs : List Curve). AreBad (curve_of cs (c.args.code / 2 ^ 32))
    (curve_of cs (c.args.code % 2 ^ 32))) (sym c.as_slice-curves.ensures.value)
    (code_pair (plan w) c.args.code small c.requires).bad

pub returns-clause-meeting : goal.returns-clause-meeting
returns-clause-meeting c =
    let w = c.args.drawing.now in
    let few = w.few_curves in
    let small : length w.curves.items < 2 ^ 32 = omega (arith, few) in
    record {
      bad = code_pair (plan w) c.args.code small c.requires;
      near = subst
          (λ (cs : List Curve). IsMeetingPlace (curve_of cs (c.args.code / 2 ^ 32))
          (curve_of cs (c.args.code % 2 ^ 32)) c.meeting_place.result)
          c.as_slice-curves.ensures.value c.meeting_place.ensures;
    }
