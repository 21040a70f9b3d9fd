-- Segments that cross one curve of a drawing and hit no other, and places that belong to no object.
-- They are what a report of an empty side stands on.
use Rattle.std.specs.Prelude.{◌≡◌, ℕ, ◌<◌, pos, ◌<ℤ◌, ◌≤ℤ◌, length}
use Rattle.plane.specs.Forms.Vectors.{Vector, Place, point, Edge}
use Rattle.plane.specs.Rule.Straights.{turn}
use Rattle.plane.specs.Rule.HalfArcs.{power, bow, HitsHalfArc}
use Rattle.plane.specs.Rule.Curves.{arc, Hits}
use Rattle.plane.specs.Rule.Plans.{Plan, curve, object}
use Rattle.plane.specs.Rule.Partition.{IsOff, Joined, IsOuter}

-- The segment from p to q crosses curve i, whose edge is e: both its ends are on no curve, p
-- strictly left of the edge as seen from its low end and q strictly right of it, and it hits curve
-- i and no other curve.
pub record CrossesCurve (d : Plan) (e : Edge) (i : ℕ) (p q : Vector) : Type 0 where
  pub p_place : Place p
  pub q_place : Place q
  pub p_off : IsOff d p
  pub q_off : IsOff d q
  pub above : pos 0 <ℤ turn (point e.low) (point e.high) p
  pub below : turn (point e.low) (point e.high) q <ℤ pos 0
  pub hits : Hits (curve d i) p q
  pub clear : (j : ℕ) → j < length d.curves → (j ≡ i → ⊥) → Hits (curve d j) p q → ⊥

-- The segment from p to q crosses the half arc of curve i: both its ends are on no curve and not on
-- the third point's side of the chord, p strictly inside the circle and q strictly outside, and it
-- hits curve i and no other curve.
pub record CrossesHalfArc (d : Plan) (i : ℕ) (p q : Vector) : Type 0 where
  pub p_place : Place p
  pub q_place : Place q
  pub p_off : IsOff d p
  pub q_off : IsOff d q
  pub p_away : pos 0 ≤ℤ bow (arc (curve d i)) p
  pub q_away : pos 0 ≤ℤ bow (arc (curve d i)) q
  pub inside : power (arc (curve d i)) p <ℤ pos 0
  pub outside : pos 0 <ℤ power (arc (curve d i)) q
  pub hits : HitsHalfArc (arc (curve d i)) p q
  pub clear : (j : ℕ) → j < length d.curves → (j ≡ i → ⊥) → Hits (curve d j) p q → ⊥

-- The place is neither outer nor joined to an object's point.
pub record IsLost (d : Plan) (z : Vector) : Type 0 where
  pub inner : IsOuter d z → ⊥
  pub alone : (j : ℕ) → j < length d.points → Joined d z (point (object d j)) → ⊥

-- The number is neither 0 nor that of an object's point, where point j has the number k j.
abbrev pub IsUnnamed : Plan → (ℕ → ℕ) → ℕ → Type 0
IsUnnamed d k n = (n ≡ 0 → ⊥) × ((j : ℕ) → j < length d.points → n ≡ k j → ⊥)

-- ---- empty sides, as some segment that crosses the curve shows
-- above and below the edge of a straight
abbrev pub IsEmptyAbove : Plan → Edge → ℕ → Type 0
IsEmptyAbove d e i = (p : Vector) × (q : Vector) × CrossesCurve d e i p q × IsLost d p

abbrev pub IsEmptyBelow : Plan → Edge → ℕ → Type 0
IsEmptyBelow d e i = (p : Vector) × (q : Vector) × CrossesCurve d e i p q × IsLost d q

-- inside and outside the circle of a half arc
abbrev pub IsEmptyInside : Plan → ℕ → Type 0
IsEmptyInside d i = (p : Vector) × (q : Vector) × CrossesHalfArc d i p q × IsLost d p

abbrev pub IsEmptyOutside : Plan → ℕ → Type 0
IsEmptyOutside d i = (p : Vector) × (q : Vector) × CrossesHalfArc d i p q × IsLost d q
