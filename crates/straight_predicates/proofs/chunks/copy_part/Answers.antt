use Rattle.std.proofs.Common.{arith}
use Rattle.straight_predicates.specs.Chunks.{joined}
use Rattle.straight_predicates.proofs.ChunkSearch.{copied_more}
use Rattle.straight_predicates.proofs.chunks.copy_part.Goals as goal

pub loop-done-preserved : goal.loop-done-preserved
loop-done-preserved g c = record {
  within =
      let m = c.in_ok-done.ensures.most in
      let w = c.loop-done.invariant.within in omega (arith, m, w);
  items = copied_more (joined c.args.chunks.now) c.loop-done.into.items c.copy_some.new.into.items
      c.args.from c.loop-done.done c.in_ok-done.field-0 c.loop-done.invariant.items
      c.in_ok-done.ensures.items;
}
