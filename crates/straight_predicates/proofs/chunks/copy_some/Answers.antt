use Rattle.std.proofs.Common.{arith, subst, sym, ◌∙◌, ◌≡◌, ◌+◌, ◌-◌, take, drop, get_or}
use Rattle.straight_predicates.specs.Chunks.{joined}
use Rattle.straight_predicates.proofs.ChunkSearch.{appended, part_of_chunk}
use Rattle.straight_predicates.proofs.chunks.copy_some.Goals as goal

pub returns-clause-items : goal.returns-clause-items
returns-clause-items g c =
    appended c.args.into.now.items c.reserve.new.self.items c.insert_values.new.values.items
    (take ((c.find-spot.result.offset + c.min-more.result) - c.find-spot.result.offset)
    (drop c.find-spot.result.offset c.values-values.result.now))
    (take c.min-more.result (drop c.args.place (joined c.args.chunks.now))) c.len-end.result
    c.in_ok-reserve.ensures.items (c.len-end.ensures
    ∙ c.reserve.new.self.ok.0) c.insert_values.ensures.items
    (part_of_chunk c.args.chunks.now c.args.place c.find-spot.result.chunk c.find-spot.result.offset
    c.min-more.result c.values-values.result.now c.find-spot.ensures
    (subst (λ xs. xs ≡ get_or c.args.chunks.now c.find-spot.result.chunk xs)
    (sym c.values-values.ensures.values) c.index-chunks-spot.is) (let m = c.min-more.ensures in
    omega (arith, m)))
