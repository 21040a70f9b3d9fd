-- The lemmas of `plane` that this crate cites.
pub use Rattle.plane.proofs.FaceLemmas.FaceRings.{enclosed, one_face_cuts}
pub use Rattle.plane.proofs.FaceLemmas.PointFaces.{above_joined, below_joined, some_inner_crossing}
pub use Rattle.plane.proofs.ListLemmas.Lists.{each_append, each_from, each_has, has_append}
pub use Rattle.plane.proofs.ListLemmas.Lists.{has_back, has_front, has_map}
pub use Rattle.plane.proofs.ListLemmas.Points.{point_eq}
pub use Rattle.plane.proofs.MoveLemmas.MadeSteps.{never, once_append}
pub use Rattle.plane.proofs.MoveLemmas.OneTimetable.{before_trans}
pub use Rattle.plane.proofs.ParityLemmas.ByNumber.{by_test, number_is, number_self, other_number}
pub use Rattle.plane.proofs.ParityLemmas.Wedges.{not_both}
pub use Rattle.plane.proofs.Turning.FanNumbers.{below_number, number_below, number_twin}
pub use Rattle.plane.proofs.Turning.NextOnly.{clockwise_is_next, next_clockwise_is, next_one}
pub use Rattle.plane.proofs.Turning.Numbering.{half_number, number_half}
