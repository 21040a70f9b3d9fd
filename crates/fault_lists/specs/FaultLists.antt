-- All faults of a drawing, list by list.
use Rattle.std.specs.Prelude.{◌≡◌, ◌↔◌, ◌⊎◌, ℕ, ◌+◌, ◌*◌, ◌^◌, ◌<◌, Bool, true, false, List}
use Rattle.std.specs.Prelude.{[], length, map}
use Rattle.std.specs.List.{Contains}
use Rattle.std.specs.List.Sorted.{IsStrictlyIncreasing}
use Rattle.plane.specs.Lists.{Has}
use Rattle.plane.specs.Rule.BadPairs.{IsBadPair}
use Rattle.plane.specs.Rule.CrossedCurves.{IsLost}
use Rattle.plane.specs.Rule.Curves.{IsOn}
use Rattle.plane.specs.Rule.Cuts.{CrossesOne, IsCut}
use Rattle.plane.specs.Rule.LeftOut.{IsClosed, IsOpen, IsRestOf}
use Rattle.plane.specs.Rule.MeetingPlaces.{IsInUnit}
use Rattle.plane.specs.Rule.Partition.{IsOff, Joined, IsOuter}
use Rattle.plane.specs.Rule.Places.{Vector, Place, point}
use Rattle.plane.specs.Rule.Plans.{Plan, curve, object}
use Rattle.plane.specs.declared.kinds.Curve.{Curve}
use Rattle.plane.specs.declared.kinds.CurveKind.TheVariants as kind
use Rattle.plane.specs.declared.kinds.Point.{Point}
use Rattle.fault_lists.specs.declared.kinds.FaceFaults.{FaceFaults}
use Rattle.fault_lists.specs.declared.kinds.Faults.{Faults}
use Rattle.fault_lists.specs.declared.kinds.MeetingAt.{MeetingAt}
use Rattle.fault_lists.specs.declared.kinds.OnAt.{OnAt}
use Rattle.fault_lists.specs.declared.kinds.PointPair.{PointPair}
use Rattle.fault_lists.specs.declared.kinds.Region.{Region}
use Rattle.fault_lists.specs.declared.kinds.SideAt.{SideAt}
use Rattle.fault_lists.specs.FaceLists.{side_number}
use Rattle.fault_lists.specs.Faults.{AreTwo, LiesOn, LiesOutside}
use Rattle.fault_lists.specs.Rings.{AreRings}
use Rattle.fault_lists.specs.Sides.{side_end}

-- ---- curves that meet badly, and points on curves
-- The entry is of this pair.
abbrev pub IsOfPair : MeetingAt → ℕ → ℕ → Type 0
IsOfPair m i j = (m.first ≡ i) × (m.second ≡ j)

-- The curve is in an entry.
abbrev pub IsMet : List MeetingAt → ℕ → Type 0
IsMet ms i = (m : MeetingAt) × Contains ms m × ((m.first ≡ i) ⊎ (m.second ≡ i))

-- The place is told for two curves that meet badly: one that is on both; or, of two straights, the
-- lower left corner of the unit square in which they meet; or, where one of the two is a half arc,
-- the first end of the first of them.
pub data IsMeetingPlace (c e : Curve) (at : Point) : Type 0 where
  exact : IsOn c (point at) → IsOn e (point at) → IsMeetingPlace c e at
  rounded : (z : Vector) → Place z → IsOn c z → IsOn e z → IsInUnit at z → IsMeetingPlace c e at
  of_arc : (c.kind ≡ kind.HalfArc) ⊎ (e.kind ≡ kind.HalfArc) → c.from ≡ at
      → IsMeetingPlace c e at

-- All pairs of curves that meet badly, by their first curves, then by their second ones.
pub record AreMeetings (d : Plan) (ms : List MeetingAt) : Type 0 where
  pub bad : (m : MeetingAt) → Contains ms m → IsBadPair d m.first m.second
  pub near : (m : MeetingAt) → Contains ms m
      → IsMeetingPlace (curve d m.first) (curve d m.second) m.at
  pub all : (i j : ℕ) → IsBadPair d i j → (m : MeetingAt) × Contains ms m × IsOfPair m i j
  pub rise : IsStrictlyIncreasing (map (λ (m : MeetingAt). m.first * 2 ^ 32 + m.second) ms)

-- All points that lie on curves, each with the least one.
pub record ArePointsOn (d : Plan) (os : List OnAt) : Type 0 where
  pub on : (o : OnAt) → Contains os o → LiesOn d o.point o.curve
  pub least : (o : OnAt) (i : ℕ) → Contains os o → i < o.curve → LiesOn d o.point i → ⊥
  pub all : (j i : ℕ) → LiesOn d j i → (o : OnAt) × Contains os o × (o.point ≡ j)
  pub rise : IsStrictlyIncreasing (map (λ (o : OnAt). o.point) os)

-- ---- faces of the rest
-- The place is in the face of the rest on that side of a curve, as a segment shows that crosses it.
pub record IsBeside (d r : Plan) (out : ℕ → Bool) (rest : IsRestOf d r out) (s : SideAt)
    (z : Vector) : Type 0 where
  pub k : ℕ
  pub there : k < length r.curves
  pub is : rest.number k ≡ s.curve
  pub p : Vector
  pub q : Vector
  pub crossing : CrossesOne r k p q
  pub joined : Joined r z (side_end (curve r k) s.left p q)

-- The place is in a face that is told to be open.
abbrev pub IsToldOpen : (d r : Plan) (out : ℕ → Bool) → IsRestOf d r out → FaceFaults → Vector
    → Type 0
IsToldOpen d r out rest f z =
    (IsOuter r z × (f.outer_open ≡ true))
    ⊎ ((s : SideAt) × Contains f.open.items s × IsBeside d r out rest s z)

-- The second point is told to be in one face with the first one.
pub record IsSharedBy (f : FaceFaults) (first j : ℕ) : Type 0 where
  pub pair : PointPair
  pub told : Contains f.shared.items pair
  pub is_first : pair.first ≡ first
  pub is_second : pair.second ≡ j

-- Two points are told to be in one face: as a pair, or each of them with the same third one.
abbrev pub AreToldTwo : FaceFaults → ℕ → ℕ → Type 0
AreToldTwo f i j =
    IsSharedBy f i j ⊎ ((first : ℕ) × IsSharedBy f first i × IsSharedBy f first j)

-- Each list is in order, and has nothing twice.
pub record AreInOrder (f : FaceFaults) : Type 0 where
  pub outside : IsStrictlyIncreasing f.outside.items
  pub shared : IsStrictlyIncreasing (map (λ (p : PointPair). p.second) f.shared.items)
  pub empty : IsStrictlyIncreasing (map side_number f.empty.items)
  pub cuts : IsStrictlyIncreasing f.cuts.items
  pub broken : IsStrictlyIncreasing (map side_number f.open.items)
  pub unjudged : IsStrictlyIncreasing f.unjudged.items

-- No two sides of the list are sides of one face.
abbrev pub HasFacesOnce : (d r : Plan) (out : ℕ → Bool) → IsRestOf d r out → List SideAt → Type 0
HasFacesOnce d r out rest sides =
    (s o : SideAt) (z : Vector) → Contains sides s → Contains sides o → Place z
    → IsBeside d r out rest s z → IsBeside d r out rest o z → s ≡ o

-- What is listed is of closed faces alone: points outside, points in one bounded face, faces without
-- a point, and both sides of a curve that is not left out, wherever a segment crosses it.
pub record AreOfClosed (d r : Plan) (out : ℕ → Bool) (rest : IsRestOf d r out)
    (f : FaceFaults) : Type 0 where
  pub outside : (j : ℕ) → Contains f.outside.items j → IsClosed d r out (point (object d j))
  pub shared : (p : PointPair) → Contains f.shared.items p
      → IsClosed d r out (point (object d p.first))
      × (IsOuter r (point (object d p.first)) → ⊥)
  pub empty : (s : SideAt) (z : Vector) → Contains f.empty.items s → Place z
      → IsBeside d r out rest s z → IsClosed d r out z
  pub cuts : (i k : ℕ) (p q : Vector) → Contains f.cuts.items i → k < length r.curves
      → rest.number k ≡ i → CrossesOne r k p q → IsClosed d r out p × IsClosed d r out q
  pub kept : (i : ℕ) → Contains f.cuts.items i
      → (k : ℕ) × (k < length r.curves) × (rest.number k ≡ i)

-- What the lists hold of the faces of r, the rest of d without the curves that are left out.
pub record AreFaultsOver (d r : Plan) (out : ℕ → Bool) (rest : IsRestOf d r out)
    (f : FaceFaults) : Type 0 where
  pub order : AreInOrder f
  -- no curve of the rest is left out
  pub none_out : (k : ℕ) → k < length r.curves → out (rest.number k) ≡ true → ⊥
  pub of_closed : AreOfClosed d r out rest f
  -- each place off the rest is outer there or not, and in a closed face or in one that is told
  pub outer_or_not : (z : Vector) → Place z → IsOff r z → IsOuter r z ⊎ (IsOuter r z → ⊥)
  pub closed_or_told : (z : Vector) → Place z → IsOff r z
      → IsClosed d r out z ⊎ IsToldOpen d r out rest f z
  pub open_is_open : (s : SideAt) → Contains f.open.items s
      → (z : Vector) × Place z × IsBeside d r out rest s z × IsOpen d r out z
  pub open_inner : (s : SideAt) (z : Vector) → Contains f.open.items s → Place z
      → IsBeside d r out rest s z → IsOuter r z → ⊥
  pub open_once : HasFacesOnce d r out rest f.open.items
  pub outer_is_open : f.outer_open ≡ true
      → (z : Vector) × Place z × IsOuter r z × IsOpen d r out z
  pub outer_all : f.outer_open ≡ true → (z : Vector) → Place z → IsOuter r z → IsOpen d r out z
  -- points outside
  pub outside_is : (j : ℕ) → Contains f.outside.items j → LiesOutside d j
  pub outside : (j : ℕ) → LiesOutside d j → f.outer_open ≡ false → Contains f.outside.items j
  -- points in one closed bounded face
  pub shared_are : (p : PointPair) → Contains f.shared.items p → AreTwo d p.first p.second
  pub shared_least : (p : PointPair) (k : ℕ) → Contains f.shared.items p → AreTwo d k p.first → ⊥
  pub shared : (i j : ℕ) → AreTwo d i j → IsClosed d r out (point (object d i))
      → (IsOuter r (point (object d i)) → ⊥) → AreToldTwo f i j
  -- closed faces without a point
  pub empty_is : (s : SideAt) → Contains f.empty.items s
      → (z : Vector) × Place z × IsBeside d r out rest s z × IsLost d z
  pub empty_once : HasFacesOnce d r out rest f.empty.items
  pub empty : (z : Vector) → Place z → IsOff d z → IsLost d z → IsClosed d r out z
      → (s : SideAt) × Contains f.empty.items s × IsBeside d r out rest s z
  -- curves with one closed face on both sides
  pub cut_is : (i : ℕ) → Contains f.cuts.items i → IsCut d i
  pub cuts : (i : ℕ) (c : IsCut d i) → i < length d.curves → (out i ≡ true → ⊥)
      → IsClosed d r out c.p → IsClosed d r out c.q → Contains f.cuts.items i
  -- points in open faces
  pub unjudged_is : (j : ℕ) → Contains f.unjudged.items j
      → (j < length d.points) × IsOpen d r out (point (object d j))
  pub unjudged : (j : ℕ) → j < length d.points → IsOff r (point (object d j))
      → IsOpen d r out (point (object d j)) → Contains f.unjudged.items j

-- ---- rings
-- The second side is one of a curve that is not left out, and some face of the rest has both.
abbrev pub HasBoth : (d r : Plan) (out : ℕ → Bool) → IsRestOf d r out → SideAt → SideAt → Type 0
HasBoth d r out rest s o =
    (out o.curve ≡ true → ⊥)
    × ((z : Vector) × Place z × IsBeside d r out rest s z × IsBeside d r out rest o z)

-- The faces of these sides, each with its rings, which have each side of the face once, joined end
-- to end; or with no ring.
pub record AreRegionsOver (d r : Plan) (out : ℕ → Bool) (rest : IsRestOf d r out)
    (sides : List SideAt) (regions : List Region) : Type 0 where
  pub sides_are : map (λ (x : Region). x.side) regions ≡ sides
  pub rings : (x : Region) → Has x regions
      → (x.rings.items ≡ []) ⊎ AreRings d (HasBoth d r out rest x.side) x.rings.items

-- All faults of the drawing d on the ground g, which is d, or what becomes of it when lines are
-- bent: each curve of g is a part of the curve of d whose number `origin` gives. Left out of g are
-- the parts of curves that meet others badly, or all curves.
pub record AreFaults (d g : Plan) (origin : ℕ → ℕ) (f : Faults) : Type 0 where
  pub meetings : AreMeetings d f.meetings.items
  pub on : ArePointsOn d f.on.items
  pub out : ℕ → Bool
  pub out_is : (i : ℕ) → i < length g.curves
      → (out i ≡ true) ↔ (IsMet f.meetings.items (origin i) ⊎ (f.all_out ≡ true))
  pub r : Plan
  pub rest : IsRestOf g r out
  pub over : AreFaultsOver g r out rest f.faces
  pub empty : AreRegionsOver g r out rest f.faces.empty.items f.empty.items
  pub broken : AreRegionsOver g r out rest f.faces.open.items f.open.items

-- The fault at the place is told, or the face of the place is told to be open.
abbrev pub IsToldOr : (d g : Plan) (origin : ℕ → ℕ) (f : Faults) → AreFaults d g origin f → Vector
    → Type 0 → Type 0
IsToldOr d g origin f all z Told = Told ⊎ IsToldOpen g all.r all.out all.rest f.faces z
