use Rattle.std.proofs.Common.{◌↔◌, IsTrue, sym, subst}
use Rattle.plane.specs.declared.kinds.Edge.{Edge}
use Rattle.level_breaks.specs.Groups.{edges_with}
use Rattle.level_breaks.specs.Parts.{IsBeside, MeetsPart}
use Rattle.level_breaks.proofs.Choices.{either_first, either_second}
use Rattle.level_breaks.proofs.PartEdges.{outer_beside, some_edge}
use Rattle.level_breaks.proofs.PlacedGroups.{first_edged, second_edged}
use Rattle.level_breaks.proofs.meeting.edges_meet.Goals as goal

pub outer_of-requires-clause-edged : goal.outer_of-requires-clause-edged
outer_of-requires-clause-edged c = first_edged c.args.one.now c.args.other.now c.requires.groups

pub meets_part-requires-clause-edged : goal.meets_part-requires-clause-edged
meets_part-requires-clause-edged c = second_edged c.args.one.now c.args.other.now c.requires.groups

pub meets_part-requires-clause-beside : goal.meets_part-requires-clause-beside
meets_part-requires-clause-beside c =
    subst (λ (e : Edge). IsBeside e
    (edges_with c.args.other.now.curve.now c.args.other.now.tube.now)) (sym c.outer_of.ensures)
    (outer_beside c.args.one.now c.args.other.now c.args.part c.requires.groups
    c.requires.parts.first)

pub returns-then-meets_part : goal.returns-then-meets_part
returns-then-meets_part c =
    let g = c.args.one.now in
    let h = c.args.other.now in
    either_first _ _ _ c.meets_part.result
    (subst (λ (e : Edge). IsTrue c.meets_part.result
    ↔ MeetsPart h.curve.now h.tube.now c.args.number e) c.outer_of.ensures c.meets_part.ensures)
    c.if-meets_part.true
    (some_edge g.curve.now g.tube.now c.args.part
    (MeetsPart h.curve.now h.tube.now c.args.number))

pub returns-else-meets_part : goal.returns-else-meets_part
returns-else-meets_part c =
    let g = c.args.one.now in
    let h = c.args.other.now in
    either_second _ _ _ c.meets_part.result c.inner_meets.result
    (subst (λ (e : Edge). IsTrue c.meets_part.result
    ↔ MeetsPart h.curve.now h.tube.now c.args.number e) c.outer_of.ensures c.meets_part.ensures)
    c.if-meets_part.false c.inner_meets.ensures
    (some_edge g.curve.now g.tube.now c.args.part
    (MeetsPart h.curve.now h.tube.now c.args.number))
