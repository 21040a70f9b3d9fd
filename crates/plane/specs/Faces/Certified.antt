-- What a certificate says of a drawing of straights, over the lists of its replay.
-- And the other way, what face numbers have to meet to be the labels of one.
use Rattle.std.specs.Prelude.{◌≡◌, ℕ, suc, ◌<◌, ◌⊎◌, length, Bool, IsTrue}
use Rattle.plane.specs.Faces.Replays.{Replay}
use Rattle.plane.specs.Faces.Labels.{Labels}
use Rattle.plane.specs.Faces.Halves.{Half, edge_of, mark, Beside, IsMatched}
use Rattle.plane.specs.Faces.Classes.{Next, Across, Touches, Lead, root, next, previous, across}
use Rattle.plane.specs.Faces.Classes.{AreLeads, IsFaces, face_of}
use Rattle.plane.specs.Faces.PlacedPoints.{IsPlaced, IsLocated}
use Rattle.plane.specs.Rule.Plans.{Plan, object}

-- a root has label 0 and was a neighbour of a border, or bounds the cell of its label's point
abbrev pub IsRoot : Plan → Replay → Labels → (ℕ → ℕ) → (ℕ → ℕ) → Half → Type 0
IsRoot d r lab strip index h =
    ((mark lab h ≡ 0) × Touches r h)
    ⊎ ((j : ℕ) × (j < length d.points) × (mark lab h ≡ suc j)
    × Beside r h (record { strip = strip j; index = index j }))

pub record Certified (d : Plan) (r : Replay) (lab : Labels) (rank : Half → ℕ)
    (link : Half → Lead) : Type 0 where
  -- neighbours match in their labels
  pub matched : IsMatched r lab
  -- each point has a position, with the label of its number
  pub strip : ℕ → ℕ
  pub index : ℕ → ℕ
  pub placed : (j : ℕ) → j < length d.points → IsPlaced r (object d j) (strip j) (index j)
  pub lower_label : (j : ℕ) (l : j < length d.points) → lab.above (placed j l).lower ≡ suc j
  pub upper_label : (j : ℕ) (l : j < length d.points) → lab.below (placed j l).upper ≡ suc j
  -- links lead to roots
  pub links : AreLeads r (mark lab) rank link (IsRoot d r lab strip index)

-- ---- the other way: face numbers where each class but the border's holds exactly one placed
-- point, numbered by the point
pub record IsComplete (d : Plan) (r : Replay) (face : Half → ℕ) (strip index : ℕ → ℕ) : Type 0 where
  pub faces : IsFaces r face
  pub placed : (j : ℕ) → j < length d.points → IsPlaced r (object d j) (strip j) (index j)
  pub label : (j : ℕ) → j < length d.points
      → face_of r face (record { strip = strip j; index = index j }) ≡ suc j
  pub filled : (h : Half) → edge_of h < r.edges
      → (face h ≡ 0) ⊎ ((j : ℕ) × (j < length d.points) × (face h ≡ suc j))

-- the half-edge is a root, or leads to its next one, to its previous one or across a cell, and
-- there the rank is smaller
abbrev pub FoundLead : Replay → (Half → ℕ) → (Half → Type 0) → Half → Lead → Type 0
FoundLead r rank Root h root = Root h
FoundLead r rank Root h (next g) = Next r h g × (rank g < rank h)
FoundLead r rank Root h (previous g) = Next r g h × (rank g < rank h)
FoundLead r rank Root h (across g) = Across r h g × (rank g < rank h)

-- every object's point has a position
abbrev pub AreLocated : Plan → Replay → (ℕ → ℕ) → (ℕ → ℕ) → Type 0
AreLocated d r strip index =
    (j : ℕ) → j < length d.points → IsLocated r (object d j) (strip j) (index j)

-- every half-edge has such a lead
abbrev pub AreFound : Replay → (Half → ℕ) → (Half → Type 0) → (Half → Lead) → Type 0
AreFound r rank Root link = (h : Half) → edge_of h < r.edges → FoundLead r rank Root h (link h)

-- a search that begins at the roots and crosses cells
pub record IsSearch (r : Replay) (Root : Half → Type 0) (reached : Half → Bool) : Type 0 where
  pub roots : (h : Half) → edge_of h < r.edges → Root h → IsTrue (reached h)
  pub across : (g h : Half) → IsTrue (reached g) → Across r h g → IsTrue (reached h)
