-- The neighbours between which gaps lie.
use Rattle.std.specs.Prelude.{◌≡◌, ◌⊎◌, ℕ, Option, Some, List, [], ◌∷◌}
use Rattle.plane.specs.declared.kinds.Edge.{Edge}
use Rattle.plane.specs.Forms.Meets.{Fine}
use Rattle.straight_predicates.specs.EdgeLists.{edge_of}

-- The edge d is just below the edge e in the list, with l below it and u above it.
abbrev pub AreNeighbours : Option ℕ → List ℕ → Option ℕ → ℕ → ℕ → Type 0
AreNeighbours l [] u d e = (l ≡ Some d) × (u ≡ Some e)
AreNeighbours l (x ∷ es) u d e = ((l ≡ Some d) × (x ≡ e)) ⊎ AreNeighbours (Some x) es u d e

-- No two neighbours there are bad.
abbrev pub AreFine : List Edge → Option ℕ → List ℕ → Option ℕ → Type 0
AreFine edges l es u =
    (d e : ℕ) → AreNeighbours l es u d e → Fine (edge_of edges d) (edge_of edges e)
