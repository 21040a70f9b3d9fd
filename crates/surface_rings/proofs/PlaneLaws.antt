-- The lemmas of the crates below that this crate cites.
pub use Rattle.half_edges.proofs.Elsewhere.{unlinked_none, unlinked_more}
pub use Rattle.plane.proofs.GapLemmas.GapCells.{some_none, some_same}
pub use Rattle.plane.proofs.GapLemmas.GapsOnce.{closed_edges}
pub use Rattle.plane.proofs.ListLemmas.ListPairs.{each_at}
pub use Rattle.plane.proofs.ListLemmas.Lists.{each_from, has_append, has_back, has_front, has_map}
pub use Rattle.plane.proofs.ListLemmas.Lists.{once_back, once_front}
pub use Rattle.plane.proofs.ListLemmas.SortedLists.{first_before, has_at, sorted_once}
pub use Rattle.plane.proofs.MoveLemmas.MadeSteps.{never, step_is, steps_length}
pub use Rattle.plane.proofs.MoveLemmas.OneTimetable.{before_trans}
pub use Rattle.plane.proofs.MoveLemmas.RunMoves.{run_known, run_repeats_none}
pub use Rattle.plane.proofs.ParityLemmas.ByNumber.{by_test}
pub use Rattle.plane.proofs.ParityLemmas.Floors.{event_degree, even_run}
pub use Rattle.plane.proofs.ParityLemmas.Parities.{parity_ends}
pub use Rattle.plane.proofs.ParityLemmas.Slices.{listed_parity}
pub use Rattle.plane.proofs.ParityLemmas.Wedges.{not_both}
pub use Rattle.plane.proofs.Runs.Numbered.{good_at, has_nth, index_of, nth}
pub use Rattle.plane.proofs.FaceLemmas.EdgeDrawings.{edges_run, straights_count}
pub use Rattle.plane.proofs.FaceLemmas.RegionGaps.{run_one, run_two}
pub use Rattle.plane.proofs.FaceLemmas.RegionPlaces.{run_crossed, run_some}
