-- Two curves with their edges that break a level, as a program tests it.
use Rattle.std.specs.Prelude.{◌≡◌, ◌⊎◌, ℕ, ◌<◌, Option, Some, None, List, length, pos, ◌≤ℤ◌}
use Rattle.plane.specs.Forms.Meets.{Bad}
use Rattle.plane.specs.Forms.Vectors.{point}
use Rattle.plane.specs.Rule.BadPairs.{HaveSameEnds, IsEndOf}
use Rattle.plane.specs.Rule.Curves.{arc}
use Rattle.plane.specs.Rule.HalfArcs.{bow}
use Rattle.plane.specs.declared.kinds.Curve.{Curve}
use Rattle.plane.specs.declared.kinds.CurveKind.TheVariants as kind
use Rattle.plane.specs.declared.kinds.Edge.{Edge}
use Rattle.plane.specs.declared.kinds.Point.{Point}
use Rattle.straight_predicates.specs.EdgeLists.{edge_of}
use Rattle.straight_predicates.specs.Meetings.{AreClose}
use Rattle.tubes.specs.Holding.{InTubeOf}
use Rattle.tubes.specs.declared.kinds.Tube.{Tube}
use Rattle.level_breaks.specs.Groups.{corners, edges_with, nth}

-- ---- edges that meet
-- The edge and one of the list share a place that is no common end, or more than one.
abbrev pub MeetsSome : Edge → List Edge → Type 0
MeetsSome e fs = (k : ℕ) × (k < length fs) × Bad e (edge_of fs k)

-- So do two of the two lists.
abbrev pub SomeMeet : List Edge → List Edge → Type 0
SomeMeet es fs = (k : ℕ) × (k < length es) × MeetsSome (edge_of es k) fs

-- ---- ends of edges in a tube
-- The point is in the tube of the curve and no end of the curve.
pub record IsInTube (c : Curve) (t : Tube) (p : Point) : Type 0 where
  pub no_end : IsEndOf c p → ⊥
  pub there : InTubeOf t (point p)

abbrev pub SomeInTube : Curve → Tube → List Point → Type 0
SomeInTube c t ps = (k : ℕ) × (k < length ps) × IsInTube c t (nth ps k)

-- An edge of the second curve ends in the tube of the first one, but at no end of that.
abbrev pub IsEntered : Curve → Option Tube → List Point → Type 0
IsEntered c None ps = ⊥
IsEntered c (Some t) ps = SomeInTube c t ps

-- ---- straights under tubes
-- The point is no end of the half arc, and on its chord or on the third point's side of it.
pub record IsLow (c : Curve) (p : Point) : Type 0 where
  pub no_end : IsEndOf c p → ⊥
  pub low : bow (arc c) (point p) ≤ℤ pos 0

abbrev pub SomeLow : Curve → List Point → Type 0
SomeLow c ps = (k : ℕ) × (k < length ps) × IsLow c (nth ps k)

-- The chord and each of the points can be told from each other.
pub record IsChordJudged (c : Curve) (ps : List Point) : Type 0 where
  pub ends : AreClose c.from c.to
  pub third : AreClose c.from c.third
  pub points : (k : ℕ) → k < length ps → AreClose c.from (nth ps k)

-- The first curve is a straight between the ends of the second, whose tube has a low inner point.
abbrev pub IsUnderChord : Curve → Option Tube → Curve → Option Tube → Type 0
IsUnderChord c None e None = ⊥
IsUnderChord c None e (Some t) = HaveSameEnds c e × SomeLow e t.inner.items
IsUnderChord c (Some u) e t = ⊥

abbrev pub OneIsUnderChord : Curve → Option Tube → Curve → Option Tube → Type 0
OneIsUnderChord c t e u = IsUnderChord c t e u ⊎ IsUnderChord e u c t

-- ---- in all
abbrev pub BreakOneWay : Curve → Option Tube → Curve → Option Tube → Type 0
BreakOneWay c t e u = IsEntered c t (corners e u) ⊎ IsUnderChord c t e u

abbrev pub AreBroken : Curve → Option Tube → Curve → Option Tube → Type 0
AreBroken c t e u =
    SomeMeet (edges_with c t) (edges_with e u) ⊎ (BreakOneWay c t e u ⊎ BreakOneWay e u c t)

-- The curve has edges: where it is a half arc, it has a tube.
abbrev pub HasEdges : Curve → Option Tube → Type 0
HasEdges c None = c.kind ≡ kind.Straight
HasEdges c (Some t) = Unit {0}

-- Both have edges, and they break the level.
abbrev pub AreBreaking : Curve → Option Tube → Curve → Option Tube → Type 0
AreBreaking c t e u = (HasEdges c t × HasEdges e u) × AreBroken c t e u
