-- What the making of a tube answers, and what its steps need.
use Rattle.std.specs.Prelude.{◌≡◌, ℕ, ◌+◌, ◌*◌, ◌/◌, ◌^◌, Option, None, Some, List, [], ◌∷◌, ℤ, pos}
use Rattle.std.specs.Prelude.{◌*ℤ◌, ◌-ℤ◌, ◌<ℤ◌, ◌≤ℤ◌}
use Rattle.std.specs.Global.{Vec}
use Rattle.plane.specs.Lists.{Each, First, Last, Neighbours}
use Rattle.plane.specs.Numbers.{IsWithin}
use Rattle.plane.specs.Forms.Arcs.{along}
use Rattle.plane.specs.Forms.Vectors.{point}
use Rattle.plane.specs.Rule.HalfArcs.{HalfArc, bend, power}
use Rattle.plane.specs.Rule.Turns.{AreNear}
use Rattle.plane.specs.Tubes.Bays.{AreBays, AreNext, Bay, ahead_of_from, ahead_of_to, bays}
use Rattle.plane.specs.Tubes.Bays.{distance, outward}
use Rattle.plane.specs.declared.kinds.Point.{Point}
use Rattle.tubes.specs.HalfArcTubes.{HasNoTube, IsTubeOf, and_then, beside, count, whole_distance}
use Rattle.tubes.specs.declared.kinds.Tube.{Tube}
use Rattle.tubes.specs.declared.spans.Span.{Span}

-- The tube's inner points begin with the first end of the half arc; with those after it and the
-- outer points it is the half arc's tube at the level.
pub record IsMade (h : HalfArc) (level : ℕ) (t : Tube) : Type 0 where
  pub after : List Point
  pub inner : t.inner.items ≡ h.from ∷ after
  pub tube : IsTubeOf h level after t.outer.items

-- The tube of the half arc at the level, where it has one; else none.
abbrev pub IsTubeAt : HalfArc → ℕ → Option Tube → Type 0
IsTubeAt h level None = HasNoTube h level
IsTubeAt h level (Some t) = IsMade h level t

-- The points are those that the rule makes; there are none where it makes none.
abbrev pub AreMade : Option (List Point) → Option (Vec Point) → Type 0
AreMade points None = points ≡ None
AreMade points (Some made) = points ≡ Some made.items

-- Two points are one, or the span has them as its ends.
abbrev pub IsSpanOf : Option Span → Point → Point → Type 0
IsSpanOf None p q = whole_distance p q ≡ 0
IsSpanOf (Some s) p q = (s.p ≡ p) × (s.q ≡ q)

-- The point's coordinates leave room in 64 bits for what is added to them.
pub record HasRoom (p : Point) : Type 0 where
  pub x : IsWithin (2 ^ 61) p.x
  pub y : IsWithin (2 ^ 61) p.y

-- Every two neighbours from p on differ by less than 2 ^ 28 units in each coordinate.
abbrev pub AreSteps : Point → List Point → Type 0
AreSteps p [] = Unit {0}
AreSteps p (q ∷ qs) = AreNear (2 ^ 28) p q × AreSteps q qs

-- The point is strictly inside the circle or on it.
abbrev pub IsInDisk : HalfArc → Point → Type 0
IsInDisk h p = power h (point p) ≤ℤ pos 0

-- The new point between two neighbours, and the outer point over them.
abbrev pub middle : HalfArc → Point → Point → Option Point
middle h p q = and_then (count h p q) (λ k. Some (beside h p q (pos k -ℤ pos 2)))

abbrev pub over : HalfArc → Point → Point → Option Point
over h p q = and_then (count h p q) (λ k. Some (beside h p q (pos ((5 * k) / 2 + 4))))

-- One bay of a tube.
abbrev pub bay : Point → Point → Bay
bay outer inner = record { outer = outer; inner = inner }

-- Along the chord the three points strictly rise.
abbrev pub Rise : HalfArc → Point → Point → Point → Type 0
Rise h p q r = (along h (point p) <ℤ along h (point q)) × (along h (point q) <ℤ along h (point r))

-- The square is less than four times how far the point is outside the circle; both are weighed by
-- the square of the turn.
abbrev pub IsFar : HalfArc → Point → ℤ → Type 0
IsFar h p square = ((bend h *ℤ bend h) *ℤ square) <ℤ (pos 4 *ℤ power h (point p))

-- The inner point is strictly on the inner side of the edge of two outer points, and that edge is
-- outside.
pub record IsUnder (h : HalfArc) (outer inner next : Point) : Type 0 where
  pub under : outward h outer next inner <ℤ pos 0
  pub first_far : IsFar h outer (distance outer next)
  pub second_far : IsFar h next (distance outer next)

-- The outer edges are outside, the first and the last but for the ends of the half arc, and the
-- inner points under them.
pub record AreOutside (h : HalfArc) (inner outer : List Point) : Type 0 where
  pub next : Neighbours (AreNext h) (bays inner outer)
  pub first : First (λ o. ahead_of_from h o ≤ℤ pos 0) outer
  pub last : Last (λ o. ahead_of_to h o ≤ℤ pos 0) outer

-- The conditions on the points of a tube, once they are made.
pub record AreCorners (h : HalfArc) (inner outer : List Point) : Type 0 where
  pub inner_near : Each (AreNear (2 ^ 28) h.from) inner
  pub outer_near : Each (AreNear (2 ^ 28) h.from) outer
  pub are_bays : AreBays h h.from (bays inner outer)
  pub are_next : Neighbours (AreNext h) (bays inner outer)
  pub first_clear : First (λ b. ahead_of_from h b.outer ≤ℤ pos 0) (bays inner outer)
  pub last_clear : Last (λ b. ahead_of_to h b.outer ≤ℤ pos 0) (bays inner outer)
