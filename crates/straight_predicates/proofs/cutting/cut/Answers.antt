use Rattle.std.proofs.Common.{arith, subst, sym, w64, ◌<◌, ◌≡◌, ℕ, length, get_or}
use Rattle.std.proofs.Math.Facts.{Fits-of_lt}
use Rattle.plane.specs.Runs.Positions.{turn_at}
use Rattle.straight_predicates.specs.EdgeLists.{edge_of, AreBelow}
use Rattle.straight_predicates.proofs.ChunkSearch.{chunk_known, cut_above, cut_below, cut_within}
use Rattle.straight_predicates.proofs.cutting.cut.Goals as goal

pub cut_chunk-requires-clause-known : goal.cut_chunk-requires-clause-known
cut_chunk-requires-clause-known c = λ i l.
    chunk_known c.chunks-chunks.result.now
    (length c.args.edges.now) c.last_below-chunk.result i c.values.result.now
    c.last_below-chunk.ensures.known
    (subst (λ xs. xs ≡ get_or c.chunks-chunks.result.now c.last_below-chunk.result xs)
    (sym c.values.ensures.values) c.index-chunks-chunk.is)
    (subst (AreBelow (length c.args.edges.now))
    (sym c.chunks-chunks.ensures.joined) c.requires.known) l

pub overflow_add-result : goal.overflow_add-result
overflow_add-result c =
    let f = c.chunks-chunks.ensures.few in
    let w = cut_within (λ (e : ℕ). turn_at (edge_of c.args.edges.now) e c.args.at) c.args.live.now
    c.chunks-chunks.result.now c.chunks-chunks.ensures.joined c.last_below-chunk.result
    c.start.result c.cut_chunk.result c.values.result.now
    c.last_below-chunk.ensures.known c.start.ensures
    (subst (λ xs. xs ≡ get_or c.chunks-chunks.result.now c.last_below-chunk.result xs)
    (sym c.values.ensures.values) c.index-chunks-chunk.is)
    (subst (λ xs. 0 < length xs) (sym c.values.ensures.values) c.values.ensures.some)
    c.cut_chunk.ensures.within in
    Fits-of_lt {w = w64} (omega (arith, f, w))

pub returns-clause-within : goal.returns-clause-within
returns-clause-within c =
    cut_within (λ (e : ℕ). turn_at (edge_of c.args.edges.now) e c.args.at) c.args.live.now
    c.chunks-chunks.result.now c.chunks-chunks.ensures.joined c.last_below-chunk.result
    c.start.result c.cut_chunk.result c.values.result.now
    c.last_below-chunk.ensures.known c.start.ensures
    (subst (λ xs. xs ≡ get_or c.chunks-chunks.result.now c.last_below-chunk.result xs)
    (sym c.values.ensures.values) c.index-chunks-chunk.is)
    (subst (λ xs. 0 < length xs) (sym c.values.ensures.values) c.values.ensures.some)
    c.cut_chunk.ensures.within

pub returns-clause-below : goal.returns-clause-below
returns-clause-below c =
    cut_below (λ (e : ℕ). turn_at (edge_of c.args.edges.now) e c.args.at) c.args.live.now
    c.chunks-chunks.result.now c.chunks-chunks.ensures.joined c.last_below-chunk.result
    c.start.result c.cut_chunk.result c.values.result.now
    c.last_below-chunk.ensures.known c.start.ensures
    (subst (λ xs. xs ≡ get_or c.chunks-chunks.result.now c.last_below-chunk.result xs)
    (sym c.values.ensures.values) c.index-chunks-chunk.is)
    (subst (λ xs. 0 < length xs) (sym c.values.ensures.values) c.values.ensures.some)
    c.cut_chunk.ensures.within
    c.last_below-chunk.ensures.below c.cut_chunk.ensures.above c.cut_chunk.ensures.below

pub returns-clause-above : goal.returns-clause-above
returns-clause-above c =
    cut_above (λ (e : ℕ). turn_at (edge_of c.args.edges.now) e c.args.at) c.args.live.now
    c.chunks-chunks.result.now c.chunks-chunks.ensures.joined c.last_below-chunk.result
    c.start.result c.cut_chunk.result c.values.result.now
    c.last_below-chunk.ensures.known c.start.ensures
    (subst (λ xs. xs ≡ get_or c.chunks-chunks.result.now c.last_below-chunk.result xs)
    (sym c.values.ensures.values) c.index-chunks-chunk.is)
    (subst (λ xs. 0 < length xs) (sym c.values.ensures.values) c.values.ensures.some)
    c.cut_chunk.ensures.within
    c.last_below-chunk.ensures.next c.last_below-chunk.ensures.above c.cut_chunk.ensures.above
