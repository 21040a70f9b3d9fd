use Rattle.std.proofs.Common.{◌≡◌, ◌++◌, List, subst}
use Rattle.plane.specs.declared.kinds.Point.{Point}
use Rattle.tubes.specs.Holding.{nth}
use Rattle.tubes.specs.TubedEdges.{AreDistinct, chain_edges, each_owner}
use Rattle.tubes.proofs.ChainEdges.{edges_end, edges_step, owners_end, owners_step}
use Rattle.tubes.proofs.Rounds.{all_dropped, dropped}
use Rattle.tubes.proofs.listing.add_chain.Goals as goal

pub add_edge-requires : goal.add_edge-requires
add_edge-requires c =
    let l = c.loop-point in
    (subst (AreDistinct l.before) (dropped c.args.points.now l.point-index c.loop-point-test.true)
    l.invariant.distinct).0

pub loop-point-preserved : goal.loop-point-preserved
loop-point-preserved c =
    let l = c.loop-point in
    let d = dropped c.args.points.now l.point-index c.loop-point-test.true in
    let e = subst (λ (qs : List Point). l.edges.items ++ chain_edges l.before qs
    ≡ c.args.edges.now.items ++ chain_edges c.args.from c.args.points.now) d
    l.invariant.edges in
    let o = subst (λ (qs : List Point). l.owners.items ++ each_owner c.args.owner qs
    ≡ c.args.owners.now.items ++ each_owner c.args.owner c.args.points.now) d
    l.invariant.owners in
    record {
      edges = edges_step l.edges.items _ _ l.before
          (nth c.args.points.now l.point-index) _ c.in_ok-add_edge.ensures.edges e;
      owners = owners_step l.owners.items _ _ c.args.owner
          (nth c.args.points.now l.point-index) _ c.in_ok-add_edge.ensures.owners o;
      distinct = (subst (AreDistinct l.before) d l.invariant.distinct).1;
    }

pub returns-clause-edges : goal.returns-clause-edges
returns-clause-edges c =
    edges_end _ _ c.loop-point.before _
    (all_dropped c.args.points.now c.loop-point.point-index c.loop-point-test.false)
    c.loop-point.invariant.edges

pub returns-clause-owners : goal.returns-clause-owners
returns-clause-owners c =
    owners_end _ _ c.args.owner _
    (all_dropped c.args.points.now c.loop-point.point-index c.loop-point-test.false)
    c.loop-point.invariant.owners
