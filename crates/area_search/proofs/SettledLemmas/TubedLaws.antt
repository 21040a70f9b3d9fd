-- The laws of runs with tubes that this crate stands on, under the names by which its proofs know
-- them.
pub use Rattle.plane.proofs.Runs.RunWeights.{run_weight}
pub use Rattle.plane.proofs.Turning.AnyWeight.{across_to, faces_to, touches_to}
pub use Rattle.plane.proofs.Turning.CellWalls.{beside_fits}
pub use Rattle.plane.proofs.Windings.Whole.{swept_whole}
pub use Rattle.plane.proofs.Settling.RunFaces.{run_faces, run_labels}
pub use Rattle.plane.proofs.Settling.BlankLabels.{cells_paired}
pub use Rattle.plane.proofs.TubedRuns.FacedTubes.{edge_twin, edge_within, faced_is, faced_twin}
pub use Rattle.plane.proofs.TubedRuns.FacedTubes.{faced_within}
pub use Rattle.plane.proofs.TubedRuns.TubedWeights.{labels_to}
pub use Rattle.plane.proofs.TubedRuns.ArcEdges.{below_m, some_inner, some_outer}
pub use Rattle.plane.proofs.TubedRuns.OwnedEdges.{owner_is}
pub use Rattle.plane.proofs.CurveAreas.SettledCertificates.{certified}
pub use Rattle.plane.proofs.CurveAreas.SettledPlaces.{number_is}
