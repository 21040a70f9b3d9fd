-- Lines by their vertices, as those of one object: what they draw.
use Rattle.std.specs.Prelude.{◌≡◌, ◌≤◌, ℕ, ◌+◌, Bool, true, false, List, [], ◌∷◌, length, map}
use Rattle.std.specs.Borrow.{Bor}
use Rattle.std.specs.List.{All, flat_map}
use Rattle.resolver.specs.Resolved.{LineForm}
use Rattle.itf_reader.specs.StrokeFindings.{Seen}
use Rattle.itf_reader.specs.RowReadings.{vertices_view}
use Rattle.itf_reader.specs.declared.rows.values.ReadVertex.{ReadVertex}
use Rattle.plane.specs.declared.kinds.Curve.{Curve}
use Rattle.plane.specs.declared.window.Window2.{Window2}
use Rattle.area_drawings.specs.AreaLimits.{area_limit}
use Rattle.area_drawings.specs.Drawings.{IsWindowOf}
use Rattle.area_drawings.specs.KeptDrawings.{AreIn, seen_curves}

-- there is a curve
abbrev pub has_curve : List Curve → Bool
has_curve [] = false
has_curve (c ∷ cs) = true

-- the curves of lines, in order
abbrev pub strokes_curves : List (List Seen) → List Curve
strokes_curves strokes = flat_map seen_curves strokes

-- how many vertices lines have
abbrev pub vertices_of : List (List Seen) → ℕ
vertices_of [] = 0
vertices_of (s ∷ ss) = length s + vertices_of ss

-- lines of that form can be drawn: all are in the window of the form, and there are not too many
pub record CanDraw (line : LineForm) (strokes : List (List Seen)) : Type 0 where
  pub inside : (w : Window2) → IsWindowOf line.window w → All (AreIn w) strokes
  pub few : vertices_of strokes ≤ area_limit

-- lines of the code
abbrev pub strokes_view : List (Bor (List ReadVertex)) → List (List Seen)
strokes_view ss = map (λ s. vertices_view s.now) ss
