use Rattle.std.proofs.Common.{arith}
use Rattle.certificate_checker.proofs.LiveBlocks.{spread_more}
use Rattle.certificate_checker.proofs.places.spread.Goals as goal

pub loop-i-preserved : goal.loop-i-preserved
loop-i-preserved c = record {
  from =
      let f = c.loop-i.invariant.from in
      let m = c.min.ensures in omega (arith, f, m);
  joined = spread_more c.loop-i.blocks c.args.edges.now c.refill.new.self c.loop-i.i c.loop-i.from
      c.min.result (let t = c.loop-i-test.true in let b = c.loop-i.auto.blocks in
      omega (arith, t, b)) c.loop-i.invariant.joined c.refill.ensures;
}
