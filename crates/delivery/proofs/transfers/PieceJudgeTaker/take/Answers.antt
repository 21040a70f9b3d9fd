use Rattle.std.proofs.Common.{refl}
use Rattle.delivery.proofs.PieceSteps.{piece_judged}
use Rattle.delivery.proofs.transfers.PieceJudgeTaker.take.Goals as goal

pub returns-clause-took : goal.returns-clause-took
returns-clause-took g c =
    piece_judged _ g.K.RowKeeper.has_rows c.take.result c.args.self.now
    (record {
      judge = c.take.new.self;
      layout = c.args.self.now.layout;
      names = c.args.self.now.names;
    }) c.args.piece.now refl refl
    c.take.ensures.takes
