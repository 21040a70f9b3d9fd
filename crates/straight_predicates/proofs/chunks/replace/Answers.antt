use Rattle.std.proofs.Common.{subst, arith, refl}
use Rattle.straight_predicates.specs.Chunks.{IsAt}
use Rattle.straight_predicates.proofs.Joined.{put_at}
use Rattle.straight_predicates.proofs.chunks.replace.Goals as goal

pub returns-then-fits : goal.returns-then-fits
returns-then-fits g c =
    put_at c.args.chunks.now.items c.args.from c.find-spot.result.chunk c.find-spot.result.offset
    (subst (λ bs. IsAt bs c.args.from c.find-spot.result.chunk c.find-spot.result.offset)
    c.deref.ensures.value c.find-spot.ensures)
    c.index_mut-chunk.result.now c.args.with.now c.replace.new.self c.args.count
    c.index_mut-chunk.ensures.value
    (let w = c.if-fits.ensures.within refl in let e = c.len-then-len-gt0.ensures.size in
    omega (arith, w, e)) c.in_ok-replace.ensures
