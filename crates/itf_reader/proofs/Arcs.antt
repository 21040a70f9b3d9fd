-- The arcs of a line, one after the other.
use Rattle.std.proofs.Common.{◌≡◌, ◌<◌, ℕ, List, [], ◌∷◌, true, length, refl, arith}
use Rattle.itf_reader.specs.declared.rows.values.ReadVertex.{ReadVertex}
use Rattle.itf_reader.specs.RowReadings.{vertices_view}
use Rattle.itf_reader.specs.StrokeFindings.{are_arcs, arc_findings}

-- two vertices have none
pub too_few : (column : ℕ) (vs : List ReadVertex) → length vs < 3
    → arc_findings column (vertices_view vs) ≡ []
too_few column [] h = refl
too_few column (s ∷ []) h = refl
too_few column (s ∷ m ∷ []) h = refl
too_few column (s ∷ m ∷ e ∷ vs) h = absurd (omega (arith, h))

pub few_are_arcs : (vs : List ReadVertex) → length vs < 3 → are_arcs (vertices_view vs) ≡ true
few_are_arcs [] h = refl
few_are_arcs (s ∷ []) h = refl
few_are_arcs (s ∷ m ∷ []) h = refl
few_are_arcs (s ∷ m ∷ e ∷ vs) h = absurd (omega (arith, h))
