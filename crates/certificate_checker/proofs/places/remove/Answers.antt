use Rattle.std.proofs.Common.{arith}
use Rattle.straight_predicates.specs.Chunks.{joined}
use Rattle.straight_predicates.proofs.ChunkSteps.{without_more}
use Rattle.certificate_checker.proofs.places.remove.Goals as goal

pub loop-left-preserved : goal.loop-left-preserved
loop-left-preserved c = record {
  least = let l = c.loop-left.invariant.least in omega (arith, l);
  joined = without_more (joined c.args.blocks.now) c.args.from c.args.count c.requires.within
      c.loop-left.left c.remove_some-left.result (joined c.loop-left.blocks)
      (joined c.remove_some-left.new.blocks)
      c.loop-left.invariant.least c.remove_some-left.ensures.most c.loop-left.invariant.joined
      c.remove_some-left.ensures.joined;
}
