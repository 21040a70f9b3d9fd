-- Half-edges of a run, the cells beside them, and their labels; the border has the label 0.
-- A half-edge has its own side of the edge on its left.
use Rattle.std.specs.Prelude.{◌≡◌, ℕ, zero, suc, ◌+◌, ◌<◌, List, [], ◌∷◌}
use Rattle.plane.specs.Faces.Labels.{Labels, MatchesAt}
use Rattle.plane.specs.Faces.Replays.{Replay}
use Rattle.plane.specs.Faces.Cells.{Sector}

-- one side of an edge: under e is numbered 2 e and runs from the high end to the low end, over e is
-- numbered 2 e + 1 and runs back;
-- each has its own side of the edge on its left
pub data Half : Type 0 where
  under : ℕ → Half
  over : ℕ → Half

-- the edge of a half-edge
abbrev pub edge_of : Half → ℕ
edge_of (under e) = e
edge_of (over e) = e

-- the other half-edge of its edge
abbrev pub twin : Half → Half
twin (under e) = over e
twin (over e) = under e

-- e stands at place i of the list
abbrev pub At : List ℕ → ℕ → ℕ → Type 0
At [] i e = ⊥
At (d ∷ es) zero e = e ≡ d
At (d ∷ es) (suc i) e = At es i e

-- e stands just before place i
abbrev pub AtBefore : List ℕ → ℕ → ℕ → Type 0
AtBefore es zero e = ⊥
AtBefore es (suc i) e = At es i e

-- the cell touches the edge from the half-edge's side
abbrev pub Beside : Replay → Half → Sector → Type 0
Beside r (under e) c = At (r.list c.strip) c.index e
Beside r (over e) c = AtBefore (r.list c.strip) c.index e

-- the label of a half-edge
abbrev pub mark : Labels → Half → ℕ
mark a (under e) = a.below e
mark a (over e) = a.above e

-- at each event, for each two new neighbours the label above the lower one is the label below the
-- upper one, borders included
abbrev pub IsMatched : Replay → Labels → Type 0
IsMatched r a = (k : ℕ) → k < r.steps → MatchesAt a (r.step k)

-- ---- numbers of half-edges
-- the number of a half-edge
abbrev pub number : Half → ℕ
number (under e) = e + e
number (over e) = suc (e + e)

-- the half-edge of the next edge, on the same side
abbrev pub shifted : Half → Half
shifted (under e) = under (suc e)
shifted (over e) = over (suc e)

-- the half-edge of a number
abbrev pub half_of : ℕ → Half
half_of zero = under 0
half_of (suc zero) = over 0
half_of (suc (suc n)) = shifted (half_of n)
