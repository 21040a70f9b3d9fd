use Rattle.std.proofs.Common.{◌<◌, get_or, refl, subst, sym}
use Rattle.area_search.proofs.PlaneLaws.{has_at, one_noted}
use Rattle.area_search.proofs.settled.meshing.note.Goals as goal

pub bounds-events-e : goal.bounds-events-e
bounds-events-e c =
    subst (λ n. get_or c.args.edges.now c.loop-e.e-index 0 < n) (sym c.loop-e.auto.events)
    (c.requires (get_or c.args.edges.now c.loop-e.e-index 0)
    (has_at c.args.edges.now c.loop-e.e-index 0 c.loop-e-test.true))

pub loop-e-preserved : goal.loop-e-preserved
loop-e-preserved c =
    one_noted c.args.edges.now c.args.event c.args.events.now c.loop-e.events c.loop-e.e-index
    (get_or c.args.edges.now c.loop-e.e-index 0)
    c.loop-e-test.true refl (bounds-events-e c) c.loop-e.invariant
