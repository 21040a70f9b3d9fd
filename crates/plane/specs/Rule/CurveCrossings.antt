-- A segment that crosses one curve of a drawing from its left to its right, as seen from `from` to
-- `to`.
use Rattle.std.specs.Prelude.{◌≡◌, ℕ, ◌<◌, pos, ◌<ℤ◌, length}
use Rattle.plane.specs.Forms.Vectors.{Vector, Place, point}
use Rattle.plane.specs.Rule.Straights.{turn}
use Rattle.plane.specs.Rule.Curves.{Hits}
use Rattle.plane.specs.Rule.Plans.{Plan, curve}
use Rattle.plane.specs.Rule.Partition.{IsOff}

-- The segment from p to q crosses curve i: both its ends are on no curve, p strictly left of the
-- straight from `from` to `to` and q strictly right of it, and it hits curve i and no other curve.
pub record Crosses (d : Plan) (i : ℕ) (p q : Vector) : Type 0 where
  pub p_place : Place p
  pub q_place : Place q
  pub p_off : IsOff d p
  pub q_off : IsOff d q
  pub left : pos 0 <ℤ turn (point (curve d i).from) (point (curve d i).to) p
  pub right : turn (point (curve d i).from) (point (curve d i).to) q <ℤ pos 0
  pub hits : Hits (curve d i) p q
  pub clear : (j : ℕ) → j < length d.curves → (j ≡ i → ⊥) → Hits (curve d j) p q → ⊥
