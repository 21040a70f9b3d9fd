use Rattle.std.proofs.Common.{◌≡◌, ◌++◌, drop}
use Rattle.tubes.specs.TubedEdges.{AreDistinct, chain_edges, each_owner}
use Rattle.tubes.proofs.listing.add_chain.Given as goal

abbrev pub invariant-loop-point : goal.invariant-loop-point
invariant-loop-point l = record {
  edges : l.edges.items ++ chain_edges l.before (drop l.point-index l.points)
      ≡ l.fn.edges.items ++ chain_edges l.fn.from l.points;
  owners : l.owners.items ++ each_owner l.owner (drop l.point-index l.points)
      ≡ l.fn.owners.items ++ each_owner l.owner l.points;
  distinct : AreDistinct l.before (drop l.point-index l.points);
}
