-- Pairs of curves that a report may name: two curves of which finite arithmetic shows that they are
-- not apart.
use Rattle.std.specs.Prelude.{◌≡◌, ◌⊎◌, ℕ, ◌<◌, ◌+◌, ◌-◌, pos, ◌+ℤ◌, ◌*ℤ◌, ◌<ℤ◌, ◌≤ℤ◌, length}
use Rattle.plane.specs.Rule.Places.{Vector, Place, point}
use Rattle.plane.specs.Rule.HalfArcs.{HalfArc, power, bow, HasSide}
use Rattle.plane.specs.Rule.Curves.{arc, IsOn, IsControl}
use Rattle.plane.specs.Rule.Plans.{Plan, curve}
use Rattle.plane.specs.declared.kinds.Point.{Point}
use Rattle.plane.specs.declared.kinds.Curve.{Curve}
use Rattle.plane.specs.declared.kinds.CurveKind.TheVariants as kind

-- Two straights have a common place that is not a control point of both.
pub record StraightsMeet (c d : Curve) : Type 0 where
  pub first : c.kind ≡ kind.Straight
  pub second : d.kind ≡ kind.Straight
  pub z : Vector
  pub place : Place z
  pub on_first : IsOn c z
  pub on_second : IsOn d z
  pub no_control : IsControl c z × IsControl d z → ⊥

-- The point is one of the curve's two control points.
abbrev pub IsEndOf : Curve → Point → Type 0
IsEndOf c p = (c.from ≡ p) ⊎ (c.to ≡ p)

-- A control point of c is on d and is no control point of it. Where d is a half arc, the point has
-- a side for it.
pub record EndsOn (c d : Curve) : Type 0 where
  pub at : Point
  pub of_first : IsEndOf c at
  pub on_second : IsOn d (point at)
  pub no_control : IsControl d (point at) → ⊥
  pub has_side : d.kind ≡ kind.HalfArc → HasSide (arc d) (point at)

-- One of the two at least is a half arc, and one of them ends on the other.
pub record EndMeets (c d : Curve) : Type 0 where
  pub half_arc : (c.kind ≡ kind.HalfArc) ⊎ (d.kind ≡ kind.HalfArc)
  pub ends : EndsOn c d ⊎ EndsOn d c

-- The place k sixteenths of the way from the curve's `from` to its `to`.
abbrev pub sixteenth : Curve → ℕ → Vector
sixteenth c k = record {
  x = (pos (16 - k) *ℤ c.from.x) +ℤ (pos k *ℤ c.to.x);
  y = (pos (16 - k) *ℤ c.from.y) +ℤ (pos k *ℤ c.to.y);
  n = pos 16;
}

-- Two places are a trial crossing of a half arc where both have a side for it, neither is on the
-- third point's side of the chord, and one is strictly inside the circle and the other strictly
-- outside.
pub record IsTrialCrossing (h : HalfArc) (p q : Vector) : Type 0 where
  pub first_side : HasSide h p
  pub second_side : HasSide h q
  pub first_away : pos 0 ≤ℤ bow h p
  pub second_away : pos 0 ≤ℤ bow h q
  pub changes : ((power h p <ℤ pos 0) × (pos 0 <ℤ power h q))
      ⊎ ((pos 0 <ℤ power h p) × (power h q <ℤ pos 0))

-- No control point of the one is a control point of the other.
abbrev pub HaveNoCommonEnd : Curve → Curve → Type 0
HaveNoCommonEnd c d = (p : Point) → IsEndOf c p → IsEndOf d p → ⊥

-- A straight c and a half arc d have no common control point, and two neighbours among the
-- straight's seventeen places at sixteenths are a trial crossing.
pub record IsCrossedOnTrial (c d : Curve) : Type 0 where
  pub straight : c.kind ≡ kind.Straight
  pub half_arc : d.kind ≡ kind.HalfArc
  pub no_common : HaveNoCommonEnd c d
  pub k : ℕ
  pub within : k < 16
  pub crossing : IsTrialCrossing (arc d) (sixteenth c k) (sixteenth c (k + 1))

-- The two curves have the same two control points.
abbrev pub HaveSameEnds : Curve → Curve → Type 0
HaveSameEnds c d = ((c.from ≡ d.from) × (c.to ≡ d.to)) ⊎ ((c.from ≡ d.to) × (c.to ≡ d.from))

-- Two half arcs with the same two control points, where the third point of d has a side for c and
-- is on c's circle, and the two third points lie on one side of the chord. The two are then one set
-- of places.
pub record AreOneArc (c d : Curve) : Type 0 where
  pub first : c.kind ≡ kind.HalfArc
  pub second : d.kind ≡ kind.HalfArc
  pub same_ends : HaveSameEnds c d
  pub has_side : HasSide (arc c) (point d.third)
  pub on_circle : power (arc c) (point d.third) ≡ pos 0
  pub one_side : bow (arc c) (point d.third) <ℤ pos 0

-- Two curves are bad where one of four things holds.
pub data AreBad (c d : Curve) : Type 0 where
  straights_meet : StraightsMeet c d → AreBad c d
  end_meets : EndMeets c d → AreBad c d
  crossed : IsCrossedOnTrial c d ⊎ IsCrossedOnTrial d c → AreBad c d
  one_arc : AreOneArc c d → AreBad c d

-- The curves numbered i and j are a bad pair of the drawing; i is less than j.
pub record IsBadPair (d : Plan) (i j : ℕ) : Type 0 where
  pub order : i < j
  pub there : j < length d.curves
  pub bad : AreBad (curve d i) (curve d j)
