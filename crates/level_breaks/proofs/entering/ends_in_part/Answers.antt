use Rattle.std.proofs.Common.{refl, inl, inr}
use Rattle.level_breaks.specs.Parts.{EntersPart}
use Rattle.level_breaks.proofs.Choices.{either_first, either_second}
use Rattle.level_breaks.proofs.PartEdges.{ends_or}
use Rattle.level_breaks.proofs.entering.ends_in_part.Goals as goal

pub enters-requires : goal.enters-requires
enters-requires c = c.requires c.args.edge.now.low (inl refl)

pub enters-requires-else-enters : goal.enters-requires-else-enters
enters-requires-else-enters c = c.requires c.args.edge.now.high (inr refl)

pub returns-then-enters : goal.returns-then-enters
returns-then-enters c =
    either_first _ _ _ c.enters.result c.enters.ensures c.if-enters.true
    (ends_or (EntersPart c.args.curve.now c.args.tube.now c.args.number) c.args.edge.now)

pub returns-else-enters : goal.returns-else-enters
returns-else-enters c =
    either_second _ _ _ c.enters.result c.enters-else-enters.result c.enters.ensures
    c.if-enters.false c.enters-else-enters.ensures
    (ends_or (EntersPart c.args.curve.now c.args.tube.now c.args.number) c.args.edge.now)
