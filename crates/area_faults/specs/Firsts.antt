-- The first of all faults that are told, in the order in which a search answers them.
use Rattle.std.specs.Prelude.{◌≡◌, ◌⊎◌, ℕ, ◌<◌, ◌≤◌, false, List, [], ◌∷◌, ⊤}
use Rattle.std.specs.List.{Contains}
use Rattle.area_search.specs.Grounds.{named_finding}
use Rattle.area_search.specs.declared.kinds.AreaAnswer.{AreaAnswer}
use Rattle.area_search.specs.declared.kinds.AreaAnswer.TheVariants.{Proved, Fault, Undecided}
use Rattle.area_search.specs.declared.kinds.AreaFinding.{AreaFinding}
use Rattle.area_search.specs.declared.kinds.AreaFinding.TheVariants.{Meeting, On, Outside, Two}
use Rattle.area_search.specs.declared.kinds.AreaFinding.TheVariants.{Cut, Empty}
use Rattle.fault_lists.specs.declared.kinds.Faults.{Faults}
use Rattle.fault_lists.specs.declared.kinds.MeetingAt.{MeetingAt}
use Rattle.fault_lists.specs.declared.kinds.OnAt.{OnAt}
use Rattle.fault_lists.specs.declared.kinds.PointPair.{PointPair}
use Rattle.fault_lists.specs.declared.kinds.SideAt.{SideAt}

-- The list begins with it.
abbrev pub BeginsWith : {A : Type 0} → List A → A → Type 0
BeginsWith xs x = (rest : List _) × (xs ≡ x ∷ rest)

-- ---- lists without an entry
-- no pair meets badly, and no point is on a curve
pub record TellsClear (f : Faults) : Type 0 where
  pub meetings : f.meetings.items ≡ []
  pub on : f.on.items ≡ []

-- and no point is outside
pub record TellsInside (f : Faults) : Type 0 where
  pub clear : TellsClear f
  pub outside : f.faces.outside.items ≡ []

-- and no two points are in one face
pub record TellsAlone (f : Faults) : Type 0 where
  pub inside : TellsInside f
  pub shared : f.faces.shared.items ≡ []

-- and no face is without a point
pub record TellsFilled (f : Faults) : Type 0 where
  pub alone : TellsAlone f
  pub empty : f.faces.empty.items ≡ []

-- and no curve has one face on both sides
pub record TellsNoFault (f : Faults) : Type 0 where
  pub filled : TellsFilled f
  pub cuts : f.faces.cuts.items ≡ []

-- No face is told to be open, and no point in one.
pub record TellsNoneOpen (f : Faults) : Type 0 where
  pub outer : f.faces.outer_open ≡ false
  pub broken : f.faces.open.items ≡ []
  pub unjudged : f.faces.unjudged.items ≡ []

-- ---- the first fault
-- The pair is in the list, which goes by second points, and it has the least first point there,
-- and with it the least second one.
pub record IsLeastPair (pairs : List PointPair) (p : PointPair) : Type 0 where
  pub told : Contains pairs p
  pub least : (q : PointPair) → Contains pairs q
      → (p.first < q.first) ⊎ ((p.first ≡ q.first) × (p.second ≤ q.second))

-- The fault is the first in the first list that has any.
pub data IsFirstOf (f : Faults) : AreaFinding → Type 0 where
  -- a pair that meets badly; which of several is free
  meeting : (m : MeetingAt) → Contains f.meetings.items m
      → IsFirstOf f (Meeting m.first m.second)
  -- else the first point on a curve
  on : (o : OnAt) → f.meetings.items ≡ [] → BeginsWith f.on.items o
      → IsFirstOf f (On o.point o.curve)
  -- else the first point outside
  outside : (j : ℕ) → TellsClear f → BeginsWith f.faces.outside.items j → IsFirstOf f (Outside j)
  -- else the least pair of points in one face
  two : (p : PointPair) → TellsInside f → IsLeastPair f.faces.shared.items p
      → IsFirstOf f (Two p.first p.second)
  -- else the first face without a point
  empty : (s : SideAt) → TellsAlone f → BeginsWith f.faces.empty.items s
      → IsFirstOf f (Empty s.curve s.left)
  -- else the first curve with one face on both sides
  cut : (i : ℕ) → TellsFilled f → BeginsWith f.faces.cuts.items i → IsFirstOf f (Cut i)

-- The fault is the first, with the curve of which the bent one is a part for that one.
abbrev pub IsFirstBy : List ℕ → Faults → AreaFinding → Type 0
IsFirstBy origin f x = (y : AreaFinding) × IsFirstOf f y × (x ≡ named_finding origin y)

-- The answer is a certificate.
abbrev pub IsProved : AreaAnswer → Type 0
IsProved (Proved c) = ⊤
IsProved (Fault x) = ⊥
IsProved (Undecided i j) = ⊥
