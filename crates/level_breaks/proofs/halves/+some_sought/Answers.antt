use Rattle.level_breaks.proofs.Choices.{refuted}
use Rattle.level_breaks.proofs.StretchParts.{apart}
use Rattle.level_breaks.proofs.halves.+some_sought.Goals as goal

pub returns-then-not-meets : goal.returns-then-not-meets
returns-then-not-meets g t c =
    apart (g.T.PartTest.sought c.args.test.now) (g.T.PartTest.holds_first c.args.test.now)
    (g.T.PartTest.holds_second c.args.test.now) (g.T.PartTest.firsts c.args.test.now)
    (g.T.PartTest.seconds c.args.test.now)
    c.args.first.now c.args.second.now c.requires.first c.requires.second c.boxes_share.ensures
    (refuted _ c.meets.result c.meets.ensures c.if-not-meets.true)
