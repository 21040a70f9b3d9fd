-- The rotation of half-edges round events, what connects them to faces, and links that lead to a
-- root.
-- A face is a class of connected half-edges; no geometry appears here.
use Rattle.std.specs.Prelude.{◌≡◌, ℕ, ◌<◌, ◌⊎◌, List, [], ◌∷◌, ◌++◌}
use Rattle.plane.specs.Runs.Steps.{Step}
use Rattle.plane.specs.Faces.Replays.{Replay}
use Rattle.plane.specs.Faces.Labels.{Labels}
use Rattle.plane.specs.Faces.Cells.{label_of, Sector, IsSector, IsBorder}
use Rattle.plane.specs.Faces.Halves.{Half, under, over, edge_of, twin, mark, Beside}

-- ---- rotation
-- the half-edges above these edges, in their order
abbrev pub starting_halves : List ℕ → List Half
starting_halves [] = []
starting_halves (e ∷ es) = over e ∷ starting_halves es

-- the half-edges below these edges, in the opposite order
abbrev pub ending_halves : List ℕ → List Half
ending_halves [] = []
ending_halves (e ∷ es) = ending_halves es ++ (under e ∷ [])

-- the half-edges that start at the step's event, counterclockwise from the direction straight down:
-- those of the starting edges from bottom to top, then those of the ending edges from top to bottom
abbrev pub fan : Step → List Half
fan s = starting_halves s.starting ++ ending_halves s.ending

-- x is the first element
abbrev pub IsFirst : {X : Type 0} → X → List X → Type 0
IsFirst x [] = ⊥
IsFirst x (y ∷ ys) = x ≡ y

-- x is the last element
abbrev pub IsLast : {X : Type 0} → X → List X → Type 0
IsLast x [] = ⊥
IsLast x (y ∷ []) = x ≡ y
IsLast x (y ∷ (z ∷ zs)) = IsLast x (z ∷ zs)

-- y stands just after x
abbrev pub Follows : {X : Type 0} → List X → X → X → Type 0
Follows [] x y = ⊥
Follows (z ∷ zs) x y = ((x ≡ z) × IsFirst y zs) ⊎ Follows zs x y

-- y follows x in the list, or x is its last element and y its first
abbrev pub FollowsRound : {X : Type 0} → List X → X → X → Type 0
FollowsRound xs x y = Follows xs x y ⊎ (IsLast x xs × IsFirst y xs)

-- g starts where h ends, and is the next one clockwise after the twin of h
pub record Next (r : Replay) (h g : Half) : Type 0 where
  pub event : ℕ
  pub fits : event < r.steps
  pub turn : FollowsRound (fan (r.step event)) g (twin h)

-- ---- faces
-- some cell is beside both
abbrev pub Across : Replay → Half → Half → Type 0
Across r g h = (c : Sector) × IsSector r c × Beside r g c × Beside r h c

-- some border cell is beside h
abbrev pub Touches : Replay → Half → Type 0
Touches r h = (c : Sector) × IsSector r c × Beside r h c × IsBorder r c

-- from g to h by cells between two edges
pub data Crossing (r : Replay) : Half → Half → Type 0 where
  same : (g h : Half) → g ≡ h → Crossing r g h
  cross : (g h i : Half) → Across r g h → Crossing r h i → Crossing r g i

-- from g to h by cells between two edges, by the step from a half-edge to its next one or back, and
-- over the border
pub data Connected (r : Replay) : Half → Half → Type 0 where
  same : (g h : Half) → g ≡ h → Connected r g h
  cross : (g h i : Half) → Across r g h → Connected r h i → Connected r g i
  go : (g h i : Half) → Next r g h → Connected r h i → Connected r g i
  return : (g h i : Half) → Next r h g → Connected r h i → Connected r g i
  outside : (g h i : Half) → Touches r g → Touches r h → Connected r h i → Connected r g i

-- ---- links
pub data Lead : Type 0 where
  root : Lead
  next : Half → Lead
  previous : Half → Lead
  across : Half → Lead

-- the half-edge has the label of h and a smaller rank
pub record Falls (r : Replay) (lab rank : Half → ℕ) (h g : Half) : Type 0 where
  pub fits : edge_of g < r.edges
  pub kept : lab g ≡ lab h
  pub less : rank g < rank h

-- where the link of h leads to: a root is good by Root
abbrev pub IsLead : Replay → (Half → ℕ) → (Half → ℕ) → (Half → Type 0) → Half → Lead → Type 0
IsLead r lab rank Root h root = Root h
IsLead r lab rank Root h (next g) = Next r h g × Falls r lab rank h g
IsLead r lab rank Root h (previous g) = Next r g h × Falls r lab rank h g
IsLead r lab rank Root h (across g) = Across r h g × Falls r lab rank h g

abbrev pub AreLeads : Replay → (Half → ℕ) → (Half → ℕ) → (Half → Lead) → (Half → Type 0) → Type 0
AreLeads r lab rank link Root = (h : Half) → edge_of h < r.edges → IsLead r lab rank Root h (link h)

-- ---- face numbers
-- half-edges have one number exactly where they are connected, and 0 is the number at the border
pub record IsFaces (r : Replay) (face : Half → ℕ) : Type 0 where
  pub across : (g h : Half) → Across r g h → face g ≡ face h
  pub border : (h : Half) → Touches r h → face h ≡ 0
  pub one : (g h : Half) → edge_of g < r.edges → edge_of h < r.edges → face g ≡ face h
      → Connected r g h
  pub outside : (h : Half) → edge_of h < r.edges → face h ≡ 0
      → (t : Half) × Connected r h t × Touches r t

-- the numbers as labels
abbrev pub numbers : (Half → ℕ) → Labels
numbers face = record { below = λ e. face (under e); above = λ e. face (over e) }

-- the number of a cell
abbrev pub face_of : Replay → (Half → ℕ) → Sector → ℕ
face_of r face c = label_of (numbers face) r c

-- ---- labels that differ wherever face numbers differ
pub record AreFine (r : Replay) (lab : Labels) (face : Half → ℕ) : Type 0 where
  pub faces : IsFaces r face
  pub finer : (g h : Half) → edge_of g < r.edges → edge_of h < r.edges → mark lab g ≡ mark lab h
      → face g ≡ face h
  pub outer : (h : Half) → edge_of h < r.edges → mark lab h ≡ 0 → face h ≡ 0
