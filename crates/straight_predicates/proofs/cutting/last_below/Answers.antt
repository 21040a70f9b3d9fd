use Rattle.std.proofs.Common.{arith, subst, sym, ◌≡◌, ◌-◌, ◌/◌, ◌<◌, length, get_or}
use Rattle.straight_predicates.proofs.ChunkSearch.{chunk_known}
use Rattle.straight_predicates.proofs.cutting.last_below.Goals as goal

pub is_below-requires-clause-known : goal.is_below-requires-clause-known
is_below-requires-clause-known c =
    let w = c.loop-low.invariant.within in
    chunk_known c.args.chunks.now (length c.args.edges.now)
    (c.loop-low.high - (c.loop-low.high - c.loop-low.low) / 2) 0 c.values.result.now
    (omega (arith, w))
    (subst (λ xs. xs ≡ get_or c.args.chunks.now
    (c.loop-low.high - (c.loop-low.high - c.loop-low.low) / 2) xs)
    (sym c.values.ensures.values) c.index-chunks-middle.is)
    c.requires.known
    (subst (λ xs. 0 < length xs) (sym c.values.ensures.values) c.values.ensures.some)
