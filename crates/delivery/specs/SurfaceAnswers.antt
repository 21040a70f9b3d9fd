-- What the program finds out about one boundary.
use Rattle.std.specs.Prelude.{◌≡◌, ℕ, Bool, true, false, List}
use Rattle.plane.specs.declared.kinds.Curve.{Curve}
use Rattle.delivery.specs.Surfaces.{Boundary, Holds, IsFault, IsFaulty, is_judged, is_looked_at}
use Rattle.delivery.specs.Surfaces.{is_skipped}
use Rattle.delivery.specs.declared.surfaces.BoundaryAnswer.{BoundaryAnswer}
use Rattle.delivery.specs.declared.surfaces.BoundaryAnswer.TheVariants.{Unseen, Skipped, Held}
use Rattle.delivery.specs.declared.surfaces.BoundaryAnswer.TheVariants.{Fault}

-- the boundary of an object in that line with these curves
abbrev pub outline : ℕ → List Curve → Boundary
outline line curves = record { line = line; curves = curves }

-- the boundary is so
abbrev pub IsBoundaryAnswer : Bool → Boundary → BoundaryAnswer → Type 0
IsBoundaryAnswer all b Unseen = is_looked_at b ≡ false
IsBoundaryAnswer all b Skipped = is_skipped all b ≡ true
IsBoundaryAnswer all b Held = (is_judged all b ≡ true) × Holds b
IsBoundaryAnswer all b (Fault x) = IsFaulty all x b

-- so it is by its edges
abbrev pub IsRingsAnswer : Boundary → BoundaryAnswer → Type 0
IsRingsAnswer b Held = Holds b
IsRingsAnswer b (Fault x) = IsFault b x
IsRingsAnswer b Unseen = ⊥
IsRingsAnswer b Skipped = ⊥
