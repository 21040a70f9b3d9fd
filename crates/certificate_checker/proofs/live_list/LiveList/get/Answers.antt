use Rattle.std.proofs.Common.{◌<◌, ap, get_or, length, subst, sym, ◌∙◌}
use Rattle.straight_predicates.specs.Chunks.{IsAt}
use Rattle.certificate_checker.proofs.LiveBlocks.{edge_at_spot}
use Rattle.certificate_checker.proofs.live_list.LiveList.get.Goals as goal

pub returns : goal.returns
returns c = λ d.
    edge_at_spot c.self.inside.blocks.items c.args.place c.find-spot.result.block
    c.find-spot.result.offset c.index.result.now c.edges.result.now d
    (subst (λ bs. IsAt bs c.args.place c.find-spot.result.block c.find-spot.result.offset)
    c.deref.ensures.value c.find-spot.ensures) c.index.ensures c.edges.ensures
    (subst (λ xs. c.args.place < length xs) (ap (λ v. v.edges) (sym c.self.view_is)) c.requires)
    ∙ ap (λ v. get_or v.edges c.args.place d) c.self.view_is
