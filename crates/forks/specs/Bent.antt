-- What becomes of a drawing when its forks are bent.
use Rattle.std.specs.Prelude.{◌≡◌, ◌⊎◌, ℕ, suc, ◌<◌, Bool, true, false, Option, None, Some, ℤ}
use Rattle.std.specs.Prelude.{List, [], ◌∷◌, ◌++◌, length, get_or, replicate}
use Rattle.plane.specs.declared.kinds.Curve.{Curve}
use Rattle.plane.specs.declared.kinds.CurveKind.{CurveKind}
use Rattle.plane.specs.declared.kinds.CurveKind.TheVariants as kind
use Rattle.plane.specs.declared.kinds.Point.{Point}
use Rattle.plane.specs.Lists.{Has}
use Rattle.plane.specs.Rule.Curves.{IsOn}
use Rattle.plane.specs.Rule.Places.{point}
use Rattle.plane.specs.Rule.Plans.{Plan, curve, object, straight}
use Rattle.plane.specs.Rule.Windows.{IsInside}
use Rattle.forks.specs.Zones.{IsZone}

-- ---- bends
-- Straight i forks from half arc k at the named end, and its bend there, b, is in the window.
pub record BendsAt (t : ℤ) (d : Plan) (i : ℕ) (at_from : Bool) (k : ℕ) (b : Point) : Type 0 where
  pub there : k < length d.curves
  pub zone : IsZone t (curve d k) (curve d i) at_from b
  pub inside : IsInside d.window.low d.window.high b

-- The bend of straight i at the named end: that of the least half arc; none where it has none.
abbrev pub IsBendAt : ℤ → Plan → ℕ → Bool → Option Point → Type 0
IsBendAt t d i at_from None = (k : ℕ) (b : Point) → BendsAt t d i at_from k b → ⊥
IsBendAt t d i at_from (Some b) =
    (k : ℕ)
    × BendsAt t d i at_from k b
    × ((l : ℕ) (c : Point) → l < k → BendsAt t d i at_from l c → ⊥)

-- ---- parts
-- a bend, where there is one
abbrev pub if_any : Option Point → List Point
if_any None = []
if_any (Some b) = b ∷ []

-- the straights of one line from p through the points in turn
abbrev pub straights_from : Point → ℕ → List Point → List Curve
straights_from p line [] = []
straights_from p line (q ∷ qs) = straight p q line ∷ straights_from q line qs

-- the parts of a straight with these bends at `from` and at `to`
abbrev pub parts : Curve → Option Point → Option Point → List Curve
parts s first last = straights_from s.from s.line (if_any first ++ (if_any last ++ s.to ∷ []))

-- An object's point lies on one of the curves.
pub record HoldPoint (d : Plan) (cs : List Curve) : Type 0 where
  pub c : Curve
  pub j : ℕ
  pub among : Has c cs
  pub there : j < length d.points
  pub on : IsOn c (point (object d j))

-- Its parts stand for a straight with bends, or itself, where an object's point lies on one of
-- them.
abbrev pub IsRun : Plan → Curve → Option Point → Option Point → List Curve → Type 0
IsRun d s first last cs =
    (HoldPoint d (parts s first last) × (cs ≡ s ∷ []))
    ⊎ ((HoldPoint d (parts s first last) → ⊥) × (cs ≡ parts s first last))

-- A straight without a bend stands as it is.
abbrev pub StandBy : Plan → Curve → Option Point → Option Point → List Curve → Type 0
StandBy d s None None cs = cs ≡ s ∷ []
StandBy d s None (Some b) cs = IsRun d s None (Some b) cs
StandBy d s (Some b) last cs = IsRun d s (Some b) last cs

-- What stands for straight i, by its bends.
pub record StandForStraight (t : ℤ) (d : Plan) (i : ℕ) (cs : List Curve) : Type 0 where
  pub first : Option Point
  pub last : Option Point
  pub at_from : IsBendAt t d i true first
  pub at_to : IsBendAt t d i false last
  pub stand : StandBy d (curve d i) first last cs

-- What stands for curve i: a half arc stands as it is.
abbrev pub StandForKind : CurveKind → ℤ → Plan → ℕ → List Curve → Type 0
StandForKind kind.Straight t d i cs = StandForStraight t d i cs
StandForKind kind.HalfArc t d i cs = cs ≡ curve d i ∷ []

-- the curves stand for the curve of that number
abbrev pub StandFor : ℤ → Plan → ℕ → List Curve → Type 0
StandFor t d i cs = StandForKind (curve d i).kind t d i cs

-- ---- the bent drawing
-- the curves of all lists, in turn
abbrev pub all_of : List (List Curve) → List Curve
all_of [] = []
all_of (cs ∷ rest) = cs ++ all_of rest

-- for each curve of the lists in turn the number of its list, counted from n
abbrev pub numbers_of : ℕ → List (List Curve) → List ℕ
numbers_of n [] = []
numbers_of n (cs ∷ rest) = replicate (length cs) n ++ numbers_of (suc n) rest

-- With an overlap of t units g is what becomes of d: its curves are those that stand for the curves
-- of d in turn, and the origin of each is the number of the curve of d that it stands for.
pub record IsBentOf (t : ℤ) (d g : Plan) (origin : List ℕ) : Type 0 where
  pub window : g.window ≡ d.window
  pub points : g.points ≡ d.points
  pub pieces : List (List Curve)
  pub count : length pieces ≡ length d.curves
  pub each : (i : ℕ) → i < length d.curves → StandFor t d i (get_or pieces i [])
  pub curves : g.curves ≡ all_of pieces
  pub origins : origin ≡ numbers_of 0 pieces

-- A number for each curve: 1 of a straight and n of a half arc.
abbrev pub weight_of_kind : ℕ → CurveKind → ℕ
weight_of_kind n kind.Straight = 1
weight_of_kind n kind.HalfArc = n

abbrev pub weight : ℕ → Curve → ℕ
weight n c = weight_of_kind n c.kind
