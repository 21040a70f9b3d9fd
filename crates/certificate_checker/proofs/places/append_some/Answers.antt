use Rattle.std.proofs.Common.{arith, subst, sym, refl, ◌∙◌, ◌≡◌, ◌+◌, ◌-◌, take, drop, get_or}
use Rattle.straight_predicates.specs.Chunks.{joined}
use Rattle.straight_predicates.proofs.ChunkSearch.{appended, part_of_chunk}
use Rattle.certificate_checker.proofs.places.append_some.Goals as goal

pub returns-clause-items : goal.returns-clause-items
returns-clause-items c =
    appended c.args.into.now.items c.args.into.now.items c.insert_edges.new.edges.items
    (take ((c.find-spot.result.offset + c.min-more.result) - c.find-spot.result.offset)
    (drop c.find-spot.result.offset c.edges-edges.result.now))
    (take c.min-more.result (drop c.args.place (joined c.args.blocks.now))) c.len-end.result
    refl (c.len-end.ensures ∙ c.args.into.now.ok.0) c.insert_edges.ensures.items
    (part_of_chunk c.args.blocks.now c.args.place c.find-spot.result.block c.find-spot.result.offset
    c.min-more.result c.edges-edges.result.now c.find-spot.ensures
    (subst (λ xs. xs ≡ get_or c.args.blocks.now c.find-spot.result.block xs)
    (sym c.edges-edges.ensures) c.index-blocks-spot.is) (let m = c.min-more.ensures in
    omega (arith, m)))
