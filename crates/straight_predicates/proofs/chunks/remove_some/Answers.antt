use Rattle.std.proofs.Common.{subst, ap, arith, length, ◌∙◌}
use Rattle.straight_predicates.specs.Chunks.{IsAt}
use Rattle.straight_predicates.proofs.Joined.{chunk_taken, part_taken, same_read}
use Rattle.straight_predicates.proofs.chunks.remove_some.Goals as goal

pub returns-then-taken-size-clause-joined : goal.returns-then-taken-size-clause-joined
returns-then-taken-size-clause-joined g c =
    chunk_taken c.args.chunks.now.items c.args.from c.find-spot.result.chunk
    c.find-spot.result.offset
    (subst (λ bs. IsAt bs c.args.from c.find-spot.result.chunk c.find-spot.result.offset)
    c.deref.ensures.value c.find-spot.ensures)
    c.index.result.now c.len-size.result c.args.count c.min-taken.result c.index.ensures
    c.len-size.ensures.size c.requires.some c.requires.within c.min-taken.ensures
    c.remove.new.self.items c.if-taken-size.true c.remove.ensures.items

pub returns-else-taken-size-clause-joined : goal.returns-else-taken-size-clause-joined
returns-else-taken-size-clause-joined g c =
    part_taken c.args.chunks.now.items c.args.from c.find-spot.result.chunk
    c.find-spot.result.offset
    (subst (λ bs. IsAt bs c.args.from c.find-spot.result.chunk c.find-spot.result.offset)
    c.deref.ensures.value c.find-spot.ensures)
    c.index_mut.result.now c.len-size.result c.args.count c.min-taken.result
    c.index_mut.ensures.value
    (c.len-size.ensures.size
    ∙ ap length (same_read c.args.chunks.now.items c.find-spot.result.chunk c.index.result.now
    c.index_mut.result.now (let k = c.find-spot.ensures.known in
    let e = ap length c.deref.ensures.value in
    omega (arith, k, e)) c.index.ensures c.index_mut.ensures.value)) c.requires.some
    c.requires.within c.min-taken.ensures
    c.remove-else-taken-size.new.self c.remove-else-taken-size.ensures
