use Rattle.std.proofs.Common.{◌+◌, sym, subst}
use Rattle.plane.specs.Forms.Meets.{Bad}
use Rattle.plane.specs.Forms.Vectors.{Before}
use Rattle.plane.specs.declared.kinds.Edge.{Edge}
use Rattle.straight_predicates.specs.Meetings.{EdgesAreClose}
use Rattle.level_breaks.specs.Groups.{bays_of}
use Rattle.std.proofs.Common.{◌↔◌, IsTrue}
use Rattle.level_breaks.proofs.Choices.{either_first, either_second}
use Rattle.level_breaks.proofs.PartEdges.{outer_there, some_edge}
use Rattle.level_breaks.proofs.meeting.meets_part.Goals as goal

pub are_bad-requires-clause-other_sorted : goal.are_bad-requires-clause-other_sorted
are_bad-requires-clause-other_sorted c =
    let g = c.args.group.now in
    subst (λ (e : Edge). Before e.low e.high) (sym c.outer_of.ensures)
    (c.requires.beside.rising (bays_of g.tube.now + c.args.part)
    (outer_there g.curve.now g.tube.now c.args.part c.requires.edged c.requires.part))

pub are_bad-requires-clause-close : goal.are_bad-requires-clause-close
are_bad-requires-clause-close c =
    let g = c.args.group.now in
    subst (λ (e : Edge). EdgesAreClose c.args.edge.now e) (sym c.outer_of.ensures)
    (c.requires.beside.close (bays_of g.tube.now + c.args.part)
    (outer_there g.curve.now g.tube.now c.args.part c.requires.edged c.requires.part))

pub returns-then-are_bad : goal.returns-then-are_bad
returns-then-are_bad c =
    let g = c.args.group.now in
    either_first _ _ _ c.are_bad.result
    (subst (λ (e : Edge). IsTrue c.are_bad.result ↔ Bad c.args.edge.now e) c.outer_of.ensures
    c.are_bad.ensures) c.if-are_bad.true
    (some_edge g.curve.now g.tube.now c.args.part (Bad c.args.edge.now))

pub returns-else-are_bad : goal.returns-else-are_bad
returns-else-are_bad c =
    let g = c.args.group.now in
    either_second _ _ _ c.are_bad.result c.meets_inner.result
    (subst (λ (e : Edge). IsTrue c.are_bad.result ↔ Bad c.args.edge.now e) c.outer_of.ensures
    c.are_bad.ensures) c.if-are_bad.false c.meets_inner.ensures
    (some_edge g.curve.now g.tube.now c.args.part (Bad c.args.edge.now))
