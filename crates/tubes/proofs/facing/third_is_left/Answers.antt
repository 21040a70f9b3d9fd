use Rattle.tubes.proofs.FacingSides.{left_is, left_is_not}
use Rattle.tubes.proofs.facing.third_is_left.Goals as goal

pub returns-in-Left : goal.returns-in-Left
returns-in-Left c = left_is c.args.curve.now c.in-Left.ensures

pub returns-in_default : goal.returns-in_default
returns-in_default c =
    left_is_not c.args.curve.now c.turn.result c.turn.ensures c.in_default.not-Left
