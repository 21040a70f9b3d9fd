-- The laws of edge lists, of tubes and of the sides of faces on which the lemmas of sides stand,
-- under the names by which these know them.
pub use Rattle.plane.proofs.ListLemmas.ListPairs.{Pairs, each_at, pairs_append, pairs_at}
pub use Rattle.plane.proofs.ListLemmas.Lists.{each_append}
pub use Rattle.plane.proofs.TubedRuns.ArcEdges.{inner_from, outer_from}
pub use Rattle.plane.proofs.TubedRuns.EdgeNumbers.{IsFrom, arc_length, chain_length, chain_owner}
pub use Rattle.plane.proofs.TubedRuns.EdgeNumbers.{from_at, group_at, group_fits, inner_length}
pub use Rattle.plane.proofs.TubedRuns.EdgeNumbers.{outer_length}
pub use Rattle.plane.proofs.TubedRuns.FacedTubes.{edge_twin, edge_within}
pub use Rattle.plane.proofs.TubedRuns.FacingHalves.{faces}
pub use Rattle.plane.proofs.TubedRuns.OwnedEdges.{IsOfArc, IsOfStraight, no_curve, owner_is}
pub use Rattle.fault_lists.proofs.LeastSides.{one_face_beside, one_side}
