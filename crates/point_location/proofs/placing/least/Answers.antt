use Rattle.std.proofs.Common.{arith}
use Rattle.point_location.proofs.Replays.{least_next, least_each}
use Rattle.point_location.proofs.placing.least.Goals as goal

pub loop-number-preserved : goal.loop-number-preserved
loop-number-preserved c = record {
  is = least_next c.args.numbers.now c.loop-number.number-index c.loop-number.least
      c.min-least.result c.args.bound c.loop-number-test.true c.loop-number.invariant.is
      c.min-least.ensures;
  bound =
      let b = c.loop-number.invariant.bound in let m = c.min-least.ensures in omega (arith, b, m);
  each = least_each c.args.numbers.now c.loop-number.number-index c.loop-number.least
      c.min-least.result c.loop-number.invariant.each c.min-least.ensures;
}
