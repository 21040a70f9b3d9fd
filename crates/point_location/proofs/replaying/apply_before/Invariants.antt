use Rattle.std.proofs.Common.{ℕ, ◌-◌, ◌<◌, ◌≤◌, length, get_or}
use Rattle.plane.specs.Forms.Vectors.{Before}
use Rattle.plane.specs.Runs.Moves.{no_move}
use Rattle.point_location.specs.Replaying.{IsApplied}
use Rattle.point_location.proofs.replaying.apply_before.Given as goal

abbrev pub invariant-loop-next : goal.invariant-loop-next
invariant-loop-next l = record {
  done : IsApplied l.events l.next l.live;
  least : l.applied ≤ l.next;
  passed : (j : ℕ) → l.applied ≤ j → j < l.next → Before (get_or l.events j no_move).at l.at;
}

abbrev pub decreases-loop-next : goal.decreases-loop-next
decreases-loop-next l = length l.events - l.next
