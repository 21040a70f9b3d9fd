use Rattle.std.proofs.Common.{ap, subst, sym, ◌<◌, ◌∙◌, ◌≡◌, length, get_or}
use Rattle.straight_predicates.specs.Chunks.{IsAt}
use Rattle.straight_predicates.proofs.Joined.{read_at}
use Rattle.straight_predicates.proofs.chunked_list.ChunkedList.get.Goals as goal

pub returns : goal.returns
returns g c = λ d.
    read_at c.self.inside.chunks.items c.args.place c.find-spot.result.chunk
    c.find-spot.result.offset
    (subst (λ bs. IsAt bs c.args.place c.find-spot.result.chunk c.find-spot.result.offset)
    c.deref.ensures.value c.find-spot.ensures)
    c.index.result.now c.index.ensures
    (subst (λ xs. c.args.place < length xs) (sym c.self.view_is) c.requires)
    c.index-values-spot.result d
    (subst (λ xs. c.index-values-spot.result
    ≡ get_or xs c.find-spot.result.offset c.index-values-spot.result) c.values.ensures.values
    c.index-values-spot.is)
    ∙ ap (λ xs. get_or xs c.args.place d) c.self.view_is
