-- Straights with bends, their parts, and the object's points that lie on these.
use Rattle.std.specs.Prelude.{◌≡◌, ◌↔◌, ◌⊎◌, ℕ, ◌+◌, ◌-◌, ◌*◌, ◌<◌, ◌≤◌, Bool, true, false, Option}
use Rattle.std.specs.Prelude.{None, Some, ℤ, List, [], ◌∷◌, length, take, drop, get_or}
use Rattle.std.specs.List.{All}
use Rattle.plane.specs.declared.kinds.Curve.{Curve}
use Rattle.plane.specs.declared.kinds.CurveKind.TheVariants as kind
use Rattle.plane.specs.declared.kinds.Point.{Point}
use Rattle.plane.specs.Forms.Boxes.{InBox}
use Rattle.plane.specs.Rule.Curves.{IsOn}
use Rattle.plane.specs.Rule.Places.{point}
use Rattle.plane.specs.Rule.Plans.{Plan, curve, object}
use Rattle.plane.specs.Rule.Windows.{IsDrawn}
use Rattle.near_pairs.specs.Boxes.{box_of, mark_of, reach_of}
use Rattle.near_pairs.specs.declared.reaches.Reach.{Reach}
use Rattle.forks.specs.Bent.{IsBendAt, StandFor, all_of, numbers_of, parts}
use Rattle.forks.specs.Ends.{curve_at}
use Rattle.forks.specs.declared.forked.Forked.{Forked}
use Rattle.forks.specs.declared.forked.ForkedStraights.{ForkedStraights}

-- ---- straights with bends
-- The straight has a bend at one end at least, and its parts are those that it names among ps.
pub record IsForked (t : ℤ) (d : Plan) (ps : List Curve) (f : Forked) : Type 0 where
  pub there : f.number < length d.curves
  pub straight : (curve d f.number).kind ≡ kind.Straight
  pub first : Option Point
  pub last : Option Point
  pub at_from : IsBendAt t d f.number true first
  pub at_to : IsBendAt t d f.number false last
  pub bends : first ≡ None → last ≡ None → ⊥
  pub order : f.start ≤ f.end
  pub fits : f.end ≤ length ps
  pub named : take (f.end - f.start) (drop f.start ps) ≡ parts (curve d f.number) first last

-- The number of a forked straight in a list of them.
abbrev pub number_at : List Forked → ℕ → ℕ
number_at fs m = (get_or fs m (record { number = 0; start = 0; end = 0 })).number

-- Straight i is in the list.
abbrev pub IsListed : ℕ → List Forked → Type 0
IsListed i fs = (m : ℕ) × (m < length fs) × (number_at fs m ≡ i)

-- No straight comes after one of a greater number.
abbrev pub AreInOrder : List Forked → Type 0
AreInOrder fs = (m n : ℕ) → m < n → n < length fs → number_at fs m < number_at fs n

-- A part is a straight that may be drawn in the window.
pub record IsPart (d : Plan) (c : Curve) : Type 0 where
  pub straight : c.kind ≡ kind.Straight
  pub drawn : IsDrawn d.window.low d.window.high c

-- The straights with bends among the curves before k, in order; each other curve before k stands
-- for itself.
pub record AreForkedTo (t : ℤ) (d : Plan) (k : ℕ) (f : ForkedStraights) : Type 0 where
  pub known : All (IsForked t d f.parts.items) f.straights.items
  pub before : All (λ s. s.number < k) f.straights.items
  pub rising : AreInOrder f.straights.items
  pub whole : (i : ℕ) → i < k
      → IsListed i f.straights.items ⊎ StandFor t d i (curve d i ∷ [])
  pub few : length f.parts.items ≤ 3 * k
  pub drawn : All (IsPart d) f.parts.items

-- ---- parts that hold a point
-- An object's point lies on the curve.
abbrev pub HoldsPoint : Plan → Curve → Type 0
HoldsPoint d c = (j : ℕ) × (j < length d.points) × IsOn c (point (object d j))

-- Of each part whether an object's point lies on it; what comes after them is not meant.
pub record AreHeld (d : Plan) (ps : List Curve) (held : List Bool) : Type 0 where
  pub size : length ps ≤ length held
  pub each : (m : ℕ) → m < length ps → (mark_of held m ≡ true) ↔ HoldsPoint d (curve_at ps m)

-- One of the parts from start up to end holds a point.
abbrev pub IsAnyHeld : List Bool → ℕ → ℕ → Type 0
IsAnyHeld held start end = (m : ℕ) × (start ≤ m) × (m < end) × (mark_of held m ≡ true)

-- The number i is that of a part, and j, less the number of parts, that of an object's point on it.
pub record HoldsAt (d : Plan) (ps : List Curve) (i j : ℕ) : Type 0 where
  pub part_there : i < length ps
  pub after : length ps ≤ j
  pub point_there : (j - length ps) < length d.points
  pub on : IsOn (curve_at ps i) (point (object d (j - length ps)))

-- The box of number i holds the ends of that part, or the object's point that i names.
pub record IsBoxOf (d : Plan) (ps : List Curve) (i : ℕ) (b : Reach) : Type 0 where
  pub from : i < length ps → InBox (box_of b) (point (curve_at ps i).from)
  pub to : i < length ps → InBox (box_of b) (point (curve_at ps i).to)
  pub object : length ps ≤ i → InBox (box_of b) (point (object d (i - length ps)))

-- The boxes of the first k numbers.
pub record AreBoxes (d : Plan) (ps : List Curve) (k : ℕ) (boxes : List Reach) : Type 0 where
  pub size : length boxes ≡ k
  pub each : (i : ℕ) → i < k → IsBoxOf d ps i (reach_of boxes i)

-- ---- pieces
-- What stands for the curves before k, in turn, and the number of the curve for which each of them
-- stands.
pub record ArePieces (t : ℤ) (d : Plan) (k : ℕ) (cs : List Curve) (origin : List ℕ) : Type 0 where
  pub pieces : List (List Curve)
  pub count : length pieces ≡ k
  pub each : (i : ℕ) → i < k → StandFor t d i (get_or pieces i [])
  pub curves : cs ≡ all_of pieces
  pub origins : origin ≡ numbers_of 0 pieces

-- The straights of the list before the next one have numbers below i, and the others have not.
pub record IsNextAt (i : ℕ) (fs : List Forked) (next : ℕ) : Type 0 where
  pub done : (m : ℕ) → m < next → m < length fs → number_at fs m < i
  pub ahead : (m : ℕ) → next ≤ m → m < length fs → i ≤ number_at fs m

-- Straight i is the next one; or it is not in the list.
abbrev pub IsNext : ℕ → List Forked → ℕ → Option Forked → Type 0
IsNext i fs next None = (IsListed i fs → ⊥) × IsNextAt (i + 1) fs next
IsNext i fs next (Some f) =
    (next < length fs) × (f ≡ get_or fs next f) × (f.number ≡ i) × IsNextAt (i + 1) fs (next + 1)
