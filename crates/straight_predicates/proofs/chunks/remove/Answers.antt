use Rattle.std.proofs.Common.{arith}
use Rattle.straight_predicates.specs.Chunks.{joined}
use Rattle.straight_predicates.proofs.ChunkSteps.{without_more}
use Rattle.straight_predicates.proofs.chunks.remove.Goals as goal

pub loop-left-preserved : goal.loop-left-preserved
loop-left-preserved g c = record {
  least = let l = c.loop-left.invariant.least in omega (arith, l);
  joined = without_more (joined c.args.chunks.now.items) c.args.from c.args.count c.requires
      c.loop-left.left c.remove_some-left.result (joined c.loop-left.chunks.items)
      (joined c.remove_some-left.new.chunks.items)
      c.loop-left.invariant.least c.remove_some-left.ensures.most c.loop-left.invariant.joined
      c.remove_some-left.ensures.joined;
}
