-- A drawing of given edges: laws on drawings then speak of edges that belong to no drawing, as
-- those of some of the lines alone.
use Rattle.std.specs.Prelude.{ℕ, zero, suc, List, [], ◌∷◌}
use Rattle.plane.specs.declared.kinds.Curve.{Curve}
use Rattle.plane.specs.declared.window.Window2.{Window2}
use Rattle.plane.specs.Forms.Vectors.{Edge}
use Rattle.plane.specs.Rule.Plans.{Plan, straight}

-- the first m edges as straights, each from its low end to its high end
abbrev pub straights_of : (ℕ → Edge) → ℕ → List Curve
straights_of E zero = []
straights_of E (suc m) = straight (E 0).low (E 0).high 0 ∷ straights_of (λ e. E (suc e)) m

-- the drawing of the edges with numbers below m, in some window that no law reads, with no object's
-- point
abbrev pub as_straights : Window2 → (ℕ → Edge) → ℕ → Plan
as_straights u E m = record { window = u; curves = straights_of E m; points = [] }
