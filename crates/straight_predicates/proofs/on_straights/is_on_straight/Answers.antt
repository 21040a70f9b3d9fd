use Rattle.std.proofs.Common.{arith}
use Rattle.std.proofs.lemmas.Int.{ints}
use Rattle.straight_predicates.proofs.OnStraights.{on_straight, off_straight}
use Rattle.straight_predicates.proofs.on_straights.is_on_straight.Goals as goal

pub returns-in-Straight : goal.returns-in-Straight
returns-in-Straight c =
    on_straight c.args.a c.args.b c.args.p c.is_in_box.result c.in-Straight.ensures
    c.is_in_box.ensures

pub returns-in-Left : goal.returns-in-Left
returns-in-Left c =
    off_straight c.args.a c.args.b c.args.p (λ e. let h = c.in-Left.ensures in
    omega (arith, ints, h, e))

pub returns-in-Right : goal.returns-in-Right
returns-in-Right c =
    off_straight c.args.a c.args.b c.args.p (λ e. let h = c.in-Right.ensures in
    omega (arith, ints, h, e))
