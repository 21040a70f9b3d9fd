use Rattle.std.proofs.Common.{refl, sym, subst, ◌<◌, get_or}
use Rattle.plane.proofs.ListLemmas.SortedLists.{has_at}
use Rattle.straight_predicates.proofs.NotedEvents.{one_noted}
use Rattle.straight_predicates.proofs.edge_events.note.Goals as goal

pub bounds-events-e : goal.bounds-events-e
bounds-events-e c =
    subst (λ n. get_or c.args.edges.now c.loop-e.e-index 0 < n) (sym c.loop-e.auto.events)
    (c.requires (get_or c.args.edges.now c.loop-e.e-index 0)
    (has_at c.args.edges.now c.loop-e.e-index 0 c.loop-e-test.true))

pub loop-e-preserved : goal.loop-e-preserved
loop-e-preserved c =
    one_noted c.args.edges.now c.args.event c.args.events.now c.loop-e.events c.loop-e.e-index
    (get_or c.args.edges.now c.loop-e.e-index 0)
    c.loop-e-test.true refl (bounds-events-e c) c.loop-e.invariant
