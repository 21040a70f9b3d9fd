use Rattle.std.proofs.Common.{arith, ◌-◌}
use Rattle.straight_predicates.specs.Chunks.{joined}
use Rattle.straight_predicates.proofs.ChunkSteps.{including_more}
use Rattle.straight_predicates.proofs.chunks.insert.Goals as goal

pub loop-left-preserved : goal.loop-left-preserved
loop-left-preserved g c = record {
  least = let l = c.loop-left.invariant.least in omega (arith, l);
  joined = including_more (joined c.args.chunks.now.items) c.args.with.now c.args.place c.requires
      (c.loop-left.left - c.min.result) c.loop-left.left (joined c.loop-left.chunks.items)
      (joined c.insert_some.new.chunks.items)
      (omega arith) c.loop-left.invariant.joined c.in_ok-insert_some.ensures;
}
