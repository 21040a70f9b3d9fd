-- The answer to a drawing by its ground: itself where some level settles it, else what becomes of
-- it when its forks are bent.
use Rattle.std.specs.Prelude.{◌≡◌, ◌<◌, ℕ, ℤ, Bool, true, false, List, get_or, length, ⊤}
use Rattle.plane.specs.Rule.Cuts.{IsArea}
use Rattle.plane.specs.Rule.Plans.{Plan}
use Rattle.certificate.specs.declared.notes.Certificate.{Certificate}
use Rattle.certificate_checker.specs.Subjects.{Claims}
use Rattle.certificate_checker.specs.Verdicts.{Proves}
use Rattle.forks.specs.Bent.{IsBentOf}
use Rattle.forks.specs.Grounds.{IsGround}
use Rattle.tubes.specs.Settled.{IsFirstBreak}
use Rattle.area_search.specs.declared.kinds.AreaFinding.{AreaFinding}
use Rattle.area_search.specs.declared.kinds.AreaFinding.TheVariants as fault
use Rattle.area_search.specs.declared.kinds.AreaAnswer.{AreaAnswer}
use Rattle.area_search.specs.declared.kinds.AreaAnswer.TheVariants.{Proved, Fault, Undecided}
use Rattle.area_search.specs.Chosen.{IsChosen}
use Rattle.area_search.specs.Answers.{AreClear, HasNoBadPair, IsAnswer, IsLeastLevel, IsSettled}
use Rattle.area_search.specs.Answers.{IsUnsettled}

-- ---- the ground
-- g is the drawing itself, where some level settles it, else what becomes of it
pub record IsRightGround (t : ℤ) (d : Plan) (is_bent : Bool) (g : Plan)
    (origin : List ℕ) : Type 0 where
  pub is_ground : IsGround t d is_bent g origin
  pub own : is_bent ≡ false → IsSettled d
  pub bent : is_bent ≡ true → IsUnsettled d

-- ---- the answer of the bent drawing, as one to the drawing
-- the curve of a finding by the curve of the drawing that it is or is a part of
abbrev pub named_finding : List ℕ → AreaFinding → AreaFinding
named_finding origin (fault.Meeting i j) = fault.Meeting i j
named_finding origin (fault.On j i) = fault.On j i
named_finding origin (fault.Outside j) = fault.Outside j
named_finding origin (fault.Two i j) = fault.Two i j
named_finding origin (fault.Empty i left) = fault.Empty (get_or origin i 0) left
named_finding origin (fault.Cut i) = fault.Cut (get_or origin i 0)

-- a certificate that says that it is of the bent drawing
abbrev pub of_bent : Certificate → Certificate
of_bent c = record c { bent = true }

-- the answer of the bent drawing, by curves of the drawing
abbrev pub named : List ℕ → AreaAnswer → AreaAnswer
named origin (Proved c) = Proved (of_bent c)
named origin (Fault f) = Fault (named_finding origin f)
named origin (Undecided i j) = Undecided i j

-- it is a certificate or a fault
abbrev pub IsDecided : AreaAnswer → Type 0
IsDecided (Proved c) = ⊤
IsDecided (Fault f) = ⊤
IsDecided (Undecided i j) = ⊥

-- The answer to a drawing that permits an overlap of t units.
pub data IsAnswerBy (t : ℤ) (d : Plan) (a : AreaAnswer) : Type 0 where
  -- two curves that are bad, a point on a curve, or what the drawing answers where a level settles
  -- it
  own : IsAnswer d a → IsDecided a → IsAnswerBy t d a
  -- else, where a level settles what becomes of it, what that answers, by curves of the drawing
  bent : (g : Plan) (origin : List ℕ) (b : AreaAnswer) → AreClear d → IsUnsettled d
      → IsBentOf t d g origin → AreClear g → IsSettled g → IsAnswer g b → a ≡ named origin b
      → IsAnswerBy t d a
  -- else the least pair of the drawing that breaks the last level
  undecided : (g : Plan) (origin : List ℕ) (i j : ℕ) → AreClear d → IsUnsettled d
      → IsBentOf t d g origin → IsUnsettled g → IsFirstBreak d (λ n. 5) i j → a ≡ Undecided i j
      → IsAnswerBy t d a

-- ---- what the parts of the search answer
-- The answer to a drawing that some level settles, so that it has no bad pair.
pub record IsAnswerOfSettled (d : Plan) (a : AreaAnswer) : Type 0 where
  pub answer : IsAnswer d a
  pub settled : IsSettled d
  pub pairs : HasNoBadPair d

-- what becomes of a drawing is settled by no level
pub record IsUndecidedBent (t : ℤ) (d : Plan) : Type 0 where
  pub g : Plan
  pub origin : List ℕ
  pub bent : IsBentOf t d g origin
  pub unsettled : IsUnsettled g

-- the curve of an empty side or of a cut is one of the first n
abbrev pub NamesCurveOf : ℕ → AreaAnswer → Type 0
NamesCurveOf n (Fault (fault.Meeting i j)) = ⊤
NamesCurveOf n (Fault (fault.On j i)) = ⊤
NamesCurveOf n (Fault (fault.Outside j)) = ⊤
NamesCurveOf n (Fault (fault.Two i j)) = ⊤
NamesCurveOf n (Fault (fault.Empty i left)) = i < n
NamesCurveOf n (Fault (fault.Cut i)) = i < n
NamesCurveOf n (Proved c) = ⊤
NamesCurveOf n (Undecided i j) = ⊤

-- ---- what the answer says of the ground
-- The claims prove the ground of the drawing, which is an area, at the least level that settles it,
-- and of those that do they are chosen; and the drawing itself has no bad pair and no point on a
-- curve.
pub record ProvesGround (t : ℤ) (d : Plan) (is_bent : Bool) (c : Claims) : Type 0 where
  pub g : Plan
  pub origin : List ℕ
  pub right : IsRightGround t d is_bent g origin
  pub clear : AreClear d
  pub proves : Proves g c
  pub least : IsLeastLevel g c.level
  pub chosen : IsChosen g c
  pub area : IsArea g

-- The ground of the drawing is an area, and the drawing itself has no bad pair and no point on a
-- curve.
pub record HasArea (t : ℤ) (d : Plan) : Type 0 where
  pub is_bent : Bool
  pub g : Plan
  pub origin : List ℕ
  pub right : IsRightGround t d is_bent g origin
  pub clear : AreClear d
  pub area : IsArea g

-- some level settles the ground of the drawing
pub record HasSettledGround (t : ℤ) (d : Plan) : Type 0 where
  pub is_bent : Bool
  pub g : Plan
  pub origin : List ℕ
  pub right : IsRightGround t d is_bent g origin
  pub settled : IsSettled g

-- the numbers of a fault are those of points and curves of the drawing
abbrev pub AreThere : Plan → AreaFinding → Type 0
AreThere d (fault.Meeting i j) = (i < length d.curves) × (j < length d.curves)
AreThere d (fault.On j i) = (j < length d.points) × (i < length d.curves)
AreThere d (fault.Outside j) = j < length d.points
AreThere d (fault.Two i j) = (i < length d.points) × (j < length d.points)
AreThere d (fault.Empty i left) = i < length d.curves
AreThere d (fault.Cut i) = i < length d.curves
