use Rattle.std.proofs.Common.{arith, ap, length}
use Rattle.straight_predicates.proofs.Joined.{find_next, found_last, same_read}
use Rattle.straight_predicates.proofs.chunks.find.Goals as goal

pub loop-chunk-preserved : goal.loop-chunk-preserved
loop-chunk-preserved g c = record {
  known = c.loop-chunk-test.true;
  is = find_next c.args.chunks.now c.args.place c.loop-chunk.chunk c.loop-chunk.offset
      c.len-offset.result c.index-chunks-chunk-in-loop-chunk.result c.loop-chunk-test.true
      c.loop-chunk.invariant.is
      c.index-chunks-chunk-in-loop-chunk.is c.len-offset.ensures.size
      (let l = c.if-len-offset.true in let e = c.len.ensures.size in
      let f = c.len-offset.ensures.size in
      let same = ap length
      (same_read c.args.chunks.now c.loop-chunk.chunk c.index-chunks-chunk.result
      c.index-chunks-chunk-in-loop-chunk.result c.loop-chunk.invariant.known
      c.index-chunks-chunk.is c.index-chunks-chunk-in-loop-chunk.is) in
      omega (arith, l, e, f, same));
}

pub returns-after-loop-chunk : goal.returns-after-loop-chunk
returns-after-loop-chunk g c =
    found_last c.args.chunks.now c.args.place c.loop-chunk.chunk c.loop-chunk.offset
    c.loop-chunk.invariant.known c.loop-chunk-test.false c.loop-chunk.invariant.is c.requires.place
