-- The laws of the plane that this crate stands on, under the names by which its proofs know them.
pub use Rattle.plane.proofs.ListLemmas.Lists.{has_append, has_back, has_front, has_map}
pub use Rattle.plane.proofs.ListLemmas.SortedLists.{has_at, room}
pub use Rattle.plane.proofs.MoveLemmas.MadeSteps.{once_append}
