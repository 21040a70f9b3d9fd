use Rattle.level_breaks.proofs.Choices.{either_first, either_second}
use Rattle.level_breaks.proofs.PartClashes.{broken_is}
use Rattle.level_breaks.proofs.finding.are_broken.Goals as goal

pub returns-then-parts_clash : goal.returns-then-parts_clash
returns-then-parts_clash c =
    either_first _ _ _ c.parts_clash.result c.parts_clash.ensures c.if-parts_clash.true
    (broken_is c.args.one.now c.args.other.now c.requires)

pub returns-else-parts_clash : goal.returns-else-parts_clash
returns-else-parts_clash c =
    either_second _ _ _ c.parts_clash.result c.one_is_under_chord.result c.parts_clash.ensures
    c.if-parts_clash.false c.one_is_under_chord.ensures
    (broken_is c.args.one.now c.args.other.now c.requires)
