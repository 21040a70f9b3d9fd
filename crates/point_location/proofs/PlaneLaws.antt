-- The laws of the plane that this crate stands on, under the names by which its proofs know them.
pub use Rattle.plane.proofs.ListLemmas.Lists.{each_has}
pub use Rattle.plane.proofs.ListLemmas.SortedLists.{has_at, room}
pub use Rattle.plane.proofs.ListLemmas.Points.{before_other, decides_equal}
pub use Rattle.plane.proofs.Linear.EdgePlaces.{side-cross}
pub use Rattle.plane.proofs.Linear.Vectors.{rise-is, side-low, side-high}
pub use Rattle.plane.proofs.MoveLemmas.MadeSteps.{live_made, onto_made, list_is, step_is}
pub use Rattle.plane.proofs.MoveLemmas.MadeSteps.{steps_length}
pub use Rattle.plane.proofs.MoveLemmas.OneTimetable.{before_trans}
pub use Rattle.plane.proofs.MoveLemmas.RunMoves.{run_repeats_none, run_known}
pub use Rattle.plane.proofs.Runs.LinesOfRuns.{live_line, one_line}
pub use Rattle.plane.proofs.Runs.RunLaws.{event_end}
pub use Rattle.plane.proofs.Runs.RunWeights.{run_weight}
pub use Rattle.plane.proofs.Sweep.Pairs.{on_straight}
pub use Rattle.plane.proofs.Turning.FanNumbers.{run_good}
