-- Straights that leave an end of a half arc close to its tangent, and the bends that lead them away
-- from it.
use Rattle.std.specs.Prelude.{◌≡◌, ◌⊎◌, ◌*◌, ◌≤◌, ◌^◌, Bool, true, false, cond, Option, None, Some}
use Rattle.std.specs.Prelude.{ℤ, pos, ◌+ℤ◌, ◌*ℤ◌, ◌-ℤ◌, ◌<ℤ◌, ◌≤ℤ◌, unsigned_abs}
use Rattle.std.specs.Int.{IsIsqrt, int_div_euclid}
use Rattle.arc_predicates.specs.Circles.{half_arc}
use Rattle.arc_predicates.specs.declared.circles.Circle.{Circle}
use Rattle.plane.specs.Numbers.{IsWithin}
use Rattle.plane.specs.declared.kinds.Curve.{Curve}
use Rattle.plane.specs.declared.kinds.CurveKind.TheVariants as kind
use Rattle.plane.specs.declared.kinds.Point.{Point}
use Rattle.plane.specs.Faces.Cells.{is_positive}
use Rattle.plane.specs.Forms.Bends.{IsBend, ahead, from_other_end, square}
use Rattle.plane.specs.Rule.BadPairs.{IsEndOf}
use Rattle.plane.specs.Rule.Curves.{arc}
use Rattle.plane.specs.Rule.HalfArcs.{HalfArc, HasCircle, bend, circle_x, circle_y}
use Rattle.plane.specs.Rule.Places.{point}
use Rattle.plane.specs.Rule.Turns.{AreNear}
use Rattle.plane.specs.Rule.Windows.{IsShort}
use Rattle.forks.specs.declared.ways.Way.{Way}
use Rattle.forks.specs.declared.zones.Zone.{Zone}

-- ---- a straight and a half arc with one common end
-- the end of the straight that is named, `from` or not, and the other one
abbrev pub near_end : Bool → Curve → Point
near_end true s = s.from
near_end false s = s.to

-- the other end
abbrev pub far_end : Bool → Curve → Point
far_end true s = s.to
far_end false s = s.from

-- The named end of the straight is an end of the half arc, and its other end is none.
pub record SharesEnd (c s : Curve) (at_from : Bool) : Type 0 where
  pub near : IsEndOf c (near_end at_from s)
  pub far : IsEndOf c (far_end at_from s) → ⊥

-- The half arc, from that end of it which the point is.
pub record IsSeenFrom (c : Curve) (p : Point) (h : HalfArc) : Type 0 where
  pub begins : h.from ≡ p
  pub same : (h ≡ arc c) ⊎ (h ≡ from_other_end (arc c))

-- ---- how the way from the half arc's first end to a point lies to the circle
-- a number with the sign of another one, which is not 0
abbrev pub signed : ℤ → ℤ → ℤ
signed d z = cond (is_positive d) z (pos 0 -ℤ z)

-- The dot and the cross product of that way and the way from the first end to the circle's centre,
-- each times one number above 0.
abbrev pub toward : HalfArc → Point → ℤ
toward h q =
    signed (bend h)
    ((circle_x h *ℤ (q.x -ℤ h.from.x)) +ℤ (circle_y h *ℤ (q.y -ℤ h.from.y)))

-- The cross product of the way to q and that to the centre, by the same positive factor.
abbrev pub across : HalfArc → Point → ℤ
across h q =
    signed (bend h)
    (((q.x -ℤ h.from.x) *ℤ circle_y h) -ℤ ((q.y -ℤ h.from.y) *ℤ circle_x h))

-- The way is less than a sixteenth off the tangent.
abbrev pub IsTangent : HalfArc → Point → Type 0
IsTangent h q = (16 * unsigned_abs (toward h q)) ≤ unsigned_abs (across h q)

-- The way leads out of the circle at once, or it leaves the circle before it ends.
abbrev pub LeadsOut : HalfArc → Point → Type 0
LeadsOut h q =
    (toward h q ≤ℤ pos 0)
    ⊎ (int_div_euclid (toward h q) (pos (unsigned_abs (bend h))) <ℤ square h.from q)

-- Whether the bend lies on the left of the way: on the side away from the centre.
abbrev pub is_left : HalfArc → Point → Bool
is_left h q = cond (is_positive (across h q)) false true

-- ---- zones
-- A straight from the half arc's first end to q forks from the half arc, and b is its bend there,
-- by at most d.
pub record IsFork (d : ℤ) (h : HalfArc) (q b : Point) : Type 0 where
  pub circle : HasCircle h
  pub is_bend : IsBend d (is_left h q) h.from q b
  pub along : pos 0 <ℤ ahead h.from q (point h.to)
  pub tangent : IsTangent h q
  pub out : LeadsOut h q

-- The straight s forks from the half arc c at the end that is named, and b is its bend there.
pub record IsZone (d : ℤ) (c s : Curve) (at_from : Bool) (b : Point) : Type 0 where
  pub half_arc : c.kind ≡ kind.HalfArc
  pub straight : s.kind ≡ kind.Straight
  pub shares : SharesEnd c s at_from
  pub seen : HalfArc
  pub is_seen : IsSeenFrom c (near_end at_from s) seen
  pub fork : IsFork d seen (far_end at_from s) b

-- The zone of the straight and the half arc; none where the straight forks at neither end.
abbrev pub IsZoneOf : ℤ → Curve → Curve → Option Zone → Type 0
IsZoneOf d c s None = (at_from : Bool) (b : Point) → IsZone d c s at_from b → ⊥
IsZoneOf d c s (Some z) = IsZone d c s z.at_from z.bend

-- ---- what calls ask for
-- Every two points of the half arc differ by less than 2 ^ 40 units in each coordinate.
pub record AreReached (c : Curve) : Type 0 where
  pub ends : AreNear (2 ^ 40) c.from c.to
  pub first : AreNear (2 ^ 40) c.from c.third
  pub second : AreNear (2 ^ 40) c.to c.third

-- So do the points of the half arc and those of the straight, whose ends have at most 18 digits.
pub record AreInReach (c s : Curve) : Type 0 where
  pub half_arc : AreReached c
  pub way : AreNear (2 ^ 40) s.from s.to
  pub from : IsShort s.from
  pub to : IsShort s.to

-- ---- what steps answer
abbrev pub IsSharedEnd : Curve → Curve → Option Bool → Type 0
IsSharedEnd c s None = (at_from : Bool) → SharesEnd c s at_from → ⊥
IsSharedEnd c s (Some at_from) = SharesEnd c s at_from

abbrev pub IsSeenCircle : Curve → Point → Option Circle → Type 0
IsSeenCircle c p None = (h : HalfArc) → IsSeenFrom c p h → HasCircle h → ⊥
IsSeenCircle c p (Some k) = IsSeenFrom c p (half_arc k)

abbrev pub IsForkOf : ℤ → HalfArc → Point → Option Point → Type 0
IsForkOf d h q None = (b : Point) → IsFork d h q b → ⊥
IsForkOf d h q (Some b) = IsFork d h q b

-- The way from the half arc's first end to q, the square of its length and its whole root, and how
-- it lies to the circle.
pub record IsWayTo (h : HalfArc) (q : Point) (w : Way) : Type 0 where
  pub x : w.x ≡ q.x -ℤ h.from.x
  pub y : w.y ≡ q.y -ℤ h.from.y
  pub x_within : IsWithin (2 ^ 40) w.x
  pub y_within : IsWithin (2 ^ 40) w.y
  pub square : w.square ≡ square h.from q
  pub root : IsIsqrt w.square w.root
  pub toward : w.toward ≡ toward h q
  pub toward_within : IsWithin (2 ^ 122) w.toward
  pub across : w.across ≡ across h q
  pub across_within : IsWithin (2 ^ 122) w.across
