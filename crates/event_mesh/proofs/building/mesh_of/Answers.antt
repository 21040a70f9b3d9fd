use Rattle.std.proofs.Common.{refl, sym, subst, ◌+◌}
use Rattle.event_mesh.specs.Built.{IsMeshOf}
use Rattle.event_mesh.proofs.MoreEdges.{one_edge_more}
use Rattle.event_mesh.proofs.building.mesh_of.Goals as goal

pub loop-e-preserved : goal.loop-e-preserved
loop-e-preserved c =
    subst (λ mesh. IsMeshOf c.args.events c.args.low.now c.args.high.now (c.loop-e.e + 1) mesh)
    (sym c.in_ok-add_edge.ensures.added)
    (one_edge_more c.args.events c.args.low.now c.args.high.now c.loop-e.e c.loop-e.mesh _ _ refl
    refl c.loop-e.invariant)
