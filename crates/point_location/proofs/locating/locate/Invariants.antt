use Rattle.std.proofs.Common.{◌≡◌, ℕ, ◌<◌, length, get_or}
use Rattle.std.specs.Prelude.{IfSome}
use Rattle.plane.specs.Forms.Vectors.{Before}
use Rattle.plane.specs.Runs.Moves.{no_move}
use Rattle.point_location.specs.Numbered.{nothing}
use Rattle.point_location.specs.Places.{IsPlaceOf, no_place}
use Rattle.point_location.specs.Replaying.{IsApplied}
use Rattle.point_location.proofs.locating.locate.Given as goal

abbrev pub invariant-loop-point : goal.invariant-loop-point
invariant-loop-point l = record {
  done : IsApplied l.swept.events l.applied l.live;
  last : IfSome l.last (λ p. IsPlaceOf l.edges l.swept.events p l.place);
  passed : (j : ℕ) → j < l.applied → l.point-index < length l.point-items
      → Before (get_or l.swept.events j no_move).at (get_or l.point-items l.point-index nothing).at;
  size : length l.places.items ≡ length l.points;
  each : (i : ℕ) → i < l.point-index
      → IsPlaceOf l.edges l.swept.events (get_or l.point-items i nothing).at
      (get_or l.places.items (get_or l.point-items i nothing).number no_place);
}
