-- The laws of the plane that this crate stands on, under the names by which its proofs know them.
pub use Rattle.plane.proofs.BendLemmas.BentParts.{apart_positive, bends_differ, beside_back}
pub use Rattle.plane.proofs.BendLemmas.BentParts.{beside_bend, beside_between, beside_first}
pub use Rattle.plane.proofs.BendLemmas.BentParts.{beside_last, close, end_differs, start_differs}
pub use Rattle.plane.proofs.Linear.EdgePlaces.{place_point}
pub use Rattle.plane.proofs.ListLemmas.SortedLists.{has_at}
pub use Rattle.plane.proofs.Windings.Under.{by_order}
pub use Rattle.plane.proofs.TubedRuns.OwnedEdges.{no_curve}
pub use Rattle.plane.proofs.HalfArcs.Boxes.{straight_in_box}
pub use Rattle.plane.proofs.Linear.WindowPoints.{inside_near, nearer}
pub use Rattle.plane.proofs.ListLemmas.ListWords.{contains_from_has}
