use Rattle.straight_predicates.proofs.WindowEdges.{inside_close}
use Rattle.meetings.proofs.StraightPairs.{both_straight}
use Rattle.area_faults.proofs.EndPlaces.{crossing_place, end_is_place, not_parallel, share_place}
use Rattle.area_faults.proofs.meeting_places.meeting_place.Goals as goal

pub crossing-requires-clause-first : goal.crossing-requires-clause-first
crossing-requires-clause-first c =
    let a = c.requires.placed in
    inside_close a.low a.high c.args.first.now.from c.args.first.now.to a.narrow a.first.from
    a.first.to

pub crossing-requires-clause-second : goal.crossing-requires-clause-second
crossing-requires-clause-second c =
    let a = c.requires.placed in
    inside_close a.low a.high c.args.second.now.from c.args.second.now.to a.narrow a.second.from
    a.second.to

pub crossing-requires-clause-from : goal.crossing-requires-clause-from
crossing-requires-clause-from c =
    let a = c.requires.placed in
    inside_close a.low a.high c.args.first.now.from c.args.second.now.from a.narrow a.first.from
    a.second.from

pub crossing-requires-clause-to : goal.crossing-requires-clause-to
crossing-requires-clause-to c =
    let a = c.requires.placed in
    inside_close a.low a.high c.args.first.now.from c.args.second.now.to a.narrow a.first.from
    a.second.to

pub crossing-requires-clause-meet : goal.crossing-requires-clause-meet
crossing-requires-clause-meet c =
    share_place c.args.first.now c.args.second.now
    (both_straight c.args.first.now c.args.second.now c.have_half_arc.result
    c.have_half_arc.ensures c.if-have_half_arc.false) c.requires.bad

pub crossing-requires-clause-cross : goal.crossing-requires-clause-cross
crossing-requires-clause-cross c =
    not_parallel c.args.first.now c.args.second.now
    (both_straight c.args.first.now c.args.second.now c.have_half_arc.result
    c.have_half_arc.ensures c.if-have_half_arc.false) c.requires.bad c.requires.placed
    (c.end_on_other.ensures.none c.in-None.is)

pub returns-in-Some : goal.returns-in-Some
returns-in-Some c =
    let h = rw c.in-Some.is at c.end_on_other.ensures.some in
    end_is_place c.args.first.now c.args.second.now c.in-Some.at h

pub returns-else-have_half_arc : goal.returns-else-have_half_arc
returns-else-have_half_arc c =
    crossing_place c.args.first.now c.args.second.now
    (both_straight c.args.first.now c.args.second.now c.have_half_arc.result
    c.have_half_arc.ensures c.if-have_half_arc.false) c.requires.bad c.crossing.result
    c.crossing.ensures
