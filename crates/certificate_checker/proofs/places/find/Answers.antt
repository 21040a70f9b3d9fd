use Rattle.std.proofs.Common.{arith, ap, length}
use Rattle.straight_predicates.proofs.Joined.{find_next, found_last, same_read}
use Rattle.certificate_checker.proofs.places.find.Goals as goal

pub loop-block-preserved : goal.loop-block-preserved
loop-block-preserved c = record {
  known = c.loop-block-test.true;
  is = find_next c.args.blocks.now c.args.place c.loop-block.block c.loop-block.offset
      c.len-offset.result c.index-blocks-block-in-loop-block.result c.loop-block-test.true
      c.loop-block.invariant.is
      c.index-blocks-block-in-loop-block.is c.len-offset.ensures.size
      (let l = c.if-len-offset.true in let e = c.len.ensures.size in
      let f = c.len-offset.ensures.size in
      let same = ap length
      (same_read c.args.blocks.now c.loop-block.block c.index-blocks-block.result
      c.index-blocks-block-in-loop-block.result c.loop-block.invariant.known
      c.index-blocks-block.is c.index-blocks-block-in-loop-block.is) in
      omega (arith, l, e, f, same));
}

pub returns-after-loop-block : goal.returns-after-loop-block
returns-after-loop-block c =
    found_last c.args.blocks.now c.args.place c.loop-block.block c.loop-block.offset
    c.loop-block.invariant.known c.loop-block-test.false c.loop-block.invariant.is c.requires.place
