-- Gaps: the places between neighbours of a live list, from below all edges to above all, with the
-- events that open and close them.
use Rattle.std.specs.Prelude.{◌≡◌, ℕ, zero, suc, ◌+◌, Bool, true, false, Option, Some, None, List}
use Rattle.std.specs.Prelude.{[], ◌∷◌, ◌++◌, take, drop, filter}
use Rattle.plane.specs.Lists.{Has}
use Rattle.plane.specs.Runs.Steps.{Step, after}
use Rattle.plane.specs.Faces.Labels.{Labels}
use Rattle.plane.specs.Runs.Moves.{Move, step_of}
use Rattle.plane.specs.Faces.Halves.{Half, under, over}

-- the edge under it and the edge over it, None at the border, and the number of the event that
-- opened it
pub record Gap : Type 0 where
  pub lower : Option ℕ
  pub upper : Option ℕ
  pub event : ℕ

-- the edge at place i, and the one just before it
abbrev pub edge_at : List ℕ → ℕ → Option ℕ
edge_at [] i = None
edge_at (e ∷ es) zero = Some e
edge_at (e ∷ es) (suc i) = edge_at es i

abbrev pub edge_before : List ℕ → ℕ → Option ℕ
edge_before es zero = None
edge_before es (suc i) = edge_at es i

-- the first edge, or u, and the last one, or l
abbrev pub first_or : Option ℕ → List ℕ → Option ℕ
first_or u [] = u
first_or u (e ∷ es) = Some e

abbrev pub last_or : Option ℕ → List ℕ → Option ℕ
last_or l [] = l
last_or l (e ∷ es) = last_or (Some e) es

-- the gaps from l over the edges of the list to u
abbrev pub gaps_between : ℕ → Option ℕ → List ℕ → Option ℕ → List Gap
gaps_between k l [] u = record { lower = l; upper = u; event = k } ∷ []
gaps_between k l (e ∷ es) u =
    record { lower = l; upper = Some e; event = k } ∷ gaps_between k (Some e) es u

-- the new neighbours of step k: from the last edge below over the starting ones to the first above
abbrev pub opened : ℕ → Step → List Gap
opened k s = gaps_between k (last_or None s.below) s.starting (first_or None s.above)

-- the label over the lower edge, and the one under the upper edge: 0 at the border
abbrev pub over_label : Labels → Option ℕ → ℕ
over_label a None = 0
over_label a (Some d) = a.above d

abbrev pub under_label : Labels → Option ℕ → ℕ
under_label a None = 0
under_label a (Some e) = a.below e

-- some edge is beside it
abbrev pub has_side : Option ℕ → Option ℕ → Bool
has_side None None = false
has_side None (Some e) = true
has_side (Some d) u = true

abbrev pub is_real : Gap → Bool
is_real g = has_side g.lower g.upper

-- the gaps after move k, and those that it closed, by the live list and the gaps before it
abbrev pub next_gaps : ℕ → List ℕ → List Gap → Move → List Gap
next_gaps k now gaps v =
    take v.position gaps ++ (opened k (step_of now v) ++ drop (suc (v.position + v.ending)) gaps)

abbrev pub closed_at : List Gap → Move → List Gap
closed_at gaps v = filter is_real (take (suc v.ending) (drop v.position gaps))

-- the gaps after moves, the first of which has number k, and those that they closed, in their order
abbrev pub gaps_from : ℕ → List ℕ → List Gap → List Move → List Gap
gaps_from k now gaps [] = gaps
gaps_from k now gaps (v ∷ vs) =
    gaps_from (suc k) (after (step_of now v)) (next_gaps k now gaps v) vs

abbrev pub closed_from : ℕ → List ℕ → List Gap → List Move → List Gap
closed_from k now gaps [] = []
closed_from k now gaps (v ∷ vs) =
    closed_at gaps v ++ closed_from (suc k) (after (step_of now v)) (next_gaps k now gaps v) vs

-- the one gap of the empty list, which has no edge beside it
abbrev pub no_gap : Gap
no_gap = record { lower = None; upper = None; event = 0 }

-- of a replay from its beginning
abbrev pub open_gaps : List Move → List Gap
open_gaps vs = gaps_from 0 [] (no_gap ∷ []) vs

abbrev pub closed_gaps : List Move → List Gap
closed_gaps vs = closed_from 0 [] (no_gap ∷ []) vs

-- some closed gap has these two edges
abbrev pub Closes : List Move → Option ℕ → Option ℕ → Type 0
Closes vs l u = (g : Gap) × Has g (closed_gaps vs) × (g.lower ≡ l) × (g.upper ≡ u)

-- some closed gap lies between the over side of one edge and the under side of another, and some at
-- the border beside h
abbrev pub GapBetween : List Move → Half → Half → Type 0
GapBetween vs (over d) (under e) = Closes vs (Some d) (Some e)
GapBetween vs (over d) (over e) = ⊥
GapBetween vs (under d) h = ⊥

abbrev pub AtBorder : List Move → Half → Type 0
AtBorder vs (under e) = Closes vs None (Some e)
AtBorder vs (over d) = Closes vs (Some d) None
