use Rattle.std.proofs.Common.{refl}
use Rattle.level_breaks.proofs.Choices.{by_equal, low_by_left, low_by_none, low_by_right}
use Rattle.level_breaks.proofs.chords.is_not_away.Goals as goal

pub returns-in-Left : goal.returns-in-Left
returns-in-Left c =
    by_equal c.is_not_right.result _ _ c.is_not_right.ensures
    (low_by_left c.args.curve.now c.args.p c.in-Left.ensures)

pub returns-in-Right : goal.returns-in-Right
returns-in-Right c =
    by_equal c.is_not_left.result _ _ c.is_not_left.ensures
    (low_by_right c.args.curve.now c.args.p c.in-Right.ensures)

pub returns-in-Straight : goal.returns-in-Straight
returns-in-Straight c =
    ((λ t. low_by_none c.args.curve.now c.args.p c.in-Straight.ensures), (λ l. refl))
