-- Labels of the sides of edges, and what it is that they match.
-- They match along a list where from the label under it to the label over it all neighbours agree.
use Rattle.std.specs.Prelude.{◌≡◌, ℕ, zero, suc, List, [], ◌∷◌}
use Rattle.plane.specs.Runs.Steps.{Step}

-- the label of the side below each edge, and of the side above it
pub record Labels : Type 0 where
  pub below : ℕ → ℕ
  pub above : ℕ → ℕ

-- from the label l under the list to the label r over it, all neighbours agree
abbrev pub Match : Labels → ℕ → List ℕ → ℕ → Type 0
Match a l [] r = l ≡ r
Match a l (e ∷ es) r = (l ≡ a.below e) × Match a (a.above e) es r

-- the label over the list, with l under it
abbrev pub last_label : Labels → ℕ → List ℕ → ℕ
last_label a l [] = l
last_label a l (e ∷ es) = last_label a (a.above e) es

-- the label under the first edge, or r where there is none
abbrev pub first_label : Labels → List ℕ → ℕ → ℕ
first_label a [] r = r
first_label a (e ∷ es) r = a.below e

-- the new neighbours of a step agree, borders included, whose label is 0
abbrev pub MatchesAt : Labels → Step → Type 0
MatchesAt a s = Match a (last_label a 0 s.below) s.starting (first_label a s.above 0)

-- the label over the first i edges, with l under them
abbrev pub label_at : Labels → ℕ → ℕ → List ℕ → ℕ
label_at a l zero es = l
label_at a l (suc i) [] = l
label_at a l (suc i) (e ∷ es) = label_at a (a.above e) i es
