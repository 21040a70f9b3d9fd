-- A point placed in a live list by its position.
-- Its position is the number of events before it and the number of edges of the live list under it.
use Rattle.std.specs.Prelude.{ℕ, ◌<◌, ◌≤◌, pos, ◌<ℤ◌, length}
use Rattle.plane.specs.declared.kinds.Point.{Point}
use Rattle.plane.specs.Forms.Vectors.{point, side, Before}
use Rattle.plane.specs.Faces.Replays.{Replay}
use Rattle.plane.specs.Faces.Halves.{At, AtBefore}

-- by x, then y, exactly the first k events come before the point, which is none of them;
-- it is strictly above the edge before place i of the live list, and strictly below the edge at
-- place i
pub record IsPlaced (r : Replay) (v : Point) (k i : ℕ) : Type 0 where
  pub fits : k ≤ r.steps
  pub passed : (j : ℕ) → j < k → Before (r.step j).at v
  pub coming : (j : ℕ) → k ≤ j → j < r.steps → Before v (r.step j).at
  pub lower : ℕ
  pub upper : ℕ
  pub is_lower : AtBefore (r.list k) i lower
  pub is_upper : At (r.list k) i upper
  pub above : pos 0 <ℤ side (r.edge lower) (point v)
  pub below : side (r.edge upper) (point v) <ℤ pos 0

-- The same where the point may also lie under all edges of the live list, or over all.
pub record IsLocated (r : Replay) (v : Point) (k i : ℕ) : Type 0 where
  pub fits : k ≤ r.steps
  pub index : i ≤ length (r.list k)
  pub passed : (j : ℕ) → j < k → Before (r.step j).at v
  pub coming : (j : ℕ) → k ≤ j → j < r.steps → Before v (r.step j).at
  pub above : (e : ℕ) → AtBefore (r.list k) i e → pos 0 <ℤ side (r.edge e) (point v)
  pub below : (e : ℕ) → At (r.list k) i e → side (r.edge e) (point v) <ℤ pos 0
