-- The laws of the plane that this crate stands on, under the names by which its proofs know them.
pub use Rattle.plane.proofs.ListLemmas.Lists.{each_has, has_front, has_back, has_append, once_front}
pub use Rattle.plane.proofs.ListLemmas.Lists.{once_back}
pub use Rattle.plane.proofs.ListLemmas.SortedLists.{at_most, has_at}
pub use Rattle.plane.proofs.MoveLemmas.MadeSteps.{live_made, all_made, made_more, live_more}
pub use Rattle.plane.proofs.MoveLemmas.MadeSteps.{once_apart, once_append}
pub use Rattle.plane.proofs.MoveLemmas.RunMoves.{fit_more}
pub use Rattle.plane.proofs.GapLemmas.GapsOnce.{open_more, all_closed_more}
pub use Rattle.plane.proofs.GapLemmas.GapSides.{open_size}
pub use Rattle.plane.proofs.GapLemmas.OpenedGaps.{opened_go_on, opened_differ}
pub use Rattle.plane.proofs.Sweep.UnderWay.{begins, block_ends, ends_as_run, ends_fine}
pub use Rattle.plane.proofs.Sweep.UnderWay.{on_live_is_bad, on_live_line, false_after_event}
pub use Rattle.plane.proofs.Sweep.NewNeighbours.{is_fine, known_live, room_live}
pub use Rattle.plane.proofs.Sweep.SweepTests.{made_by_turns}
pub use Rattle.plane.proofs.MoveLemmas.OneTimetable.{ending_once, one_timetable, starting_once}
pub use Rattle.plane.proofs.MoveLemmas.OneTimetable.{slopes_rise}
pub use Rattle.plane.proofs.Linear.EdgePlaces.{side-cross}
