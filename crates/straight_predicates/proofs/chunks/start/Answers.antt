use Rattle.std.proofs.Common.{arith, w64}
use Rattle.std.proofs.Math.Facts.{Fits-of_lt}
use Rattle.straight_predicates.proofs.Joined.{start_fits, start_more}
use Rattle.straight_predicates.proofs.chunks.start.Goals as goal

pub overflow_add-place : goal.overflow_add-place
overflow_add-place g c =
    Fits-of_lt {w = w64}
    (start_fits c.args.chunks.now c.loop-i.i c.loop-i.place c.len-place.result
    c.index-chunks-i.result (let t = c.loop-i-test.true in let b = c.requires.chunk in
    omega (arith, t, b)) c.loop-i.invariant c.index-chunks-i.is c.len-place.ensures.size
    c.requires.few)

pub loop-i-preserved : goal.loop-i-preserved
loop-i-preserved g c =
    start_more c.args.chunks.now c.loop-i.i c.loop-i.place c.len-place.result
    c.index-chunks-i.result (let t = c.loop-i-test.true in let b = c.requires.chunk in
    omega (arith, t, b)) c.loop-i.invariant c.index-chunks-i.is c.len-place.ensures.size
