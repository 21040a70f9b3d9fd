use Rattle.std.proofs.Common.{◌↔◌, ◌+◌, Some, IsTrue, subst}
use Rattle.plane.specs.Forms.Meets.{IsEnd}
use Rattle.plane.specs.declared.kinds.Edge.{Edge}
use Rattle.level_breaks.specs.Groups.{bays_of}
use Rattle.level_breaks.specs.Parts.{EndsInPart}
use Rattle.level_breaks.proofs.Choices.{either_first, either_second}
use Rattle.level_breaks.proofs.PartEdges.{outer_there, some_edge}
use Rattle.level_breaks.proofs.entering.some_end_enters.Goals as goal

pub ends_in_part-requires : goal.ends_in_part-requires
ends_in_part-requires c = λ p end.
    let g = c.args.group.now in
    c.requires.turnable (bays_of g.tube.now + c.args.part)
    (outer_there g.curve.now g.tube.now c.args.part c.requires.edged c.requires.part) p
    (subst (λ (e : Edge). IsEnd e p) c.outer_of.ensures end)

pub returns-then-ends_in_part : goal.returns-then-ends_in_part
returns-then-ends_in_part c =
    let g = c.args.group.now in
    let P = EndsInPart c.args.curve.now (Some c.args.tube.now) c.args.number in
    either_first _ _ _ c.ends_in_part.result
    (subst (λ (e : Edge). IsTrue c.ends_in_part.result ↔ P e) c.outer_of.ensures
    c.ends_in_part.ensures) c.if-ends_in_part.true
    (some_edge g.curve.now g.tube.now c.args.part P)

pub returns-else-ends_in_part : goal.returns-else-ends_in_part
returns-else-ends_in_part c =
    let g = c.args.group.now in
    let P = EndsInPart c.args.curve.now (Some c.args.tube.now) c.args.number in
    either_second _ _ _ c.ends_in_part.result c.inner_enters.result
    (subst (λ (e : Edge). IsTrue c.ends_in_part.result ↔ P e) c.outer_of.ensures
    c.ends_in_part.ensures) c.if-ends_in_part.false c.inner_enters.ensures
    (some_edge g.curve.now g.tube.now c.args.part P)
