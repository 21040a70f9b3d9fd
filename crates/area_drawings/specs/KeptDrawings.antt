-- The drawing of an area from what is kept of the rows.
use Rattle.std.specs.Prelude.{◌≡◌, ℕ, ◌+◌, ◌≤◌, Bool, nat_lt, ◌||◌, List, [], ◌∷◌, length, take}
use Rattle.std.specs.Prelude.{drop, Option, Some, None, slice_get, slice_index_or}
use Rattle.std.specs.List.{All, list_any, flat_map}
use Rattle.resolver.specs.Resolved.{LineForm}
use Rattle.table_layout.specs.Layouts.{AreaOf, Layout}
use Rattle.itf_reader.specs.Forms.{Row}
use Rattle.itf_reader.specs.StrokeFindings.{Seen}
use Rattle.plane.specs.Rule.Plans.{Plan}
use Rattle.plane.specs.Rule.Windows.{IsInside}
use Rattle.plane.specs.declared.kinds.Curve.{Curve}
use Rattle.plane.specs.declared.kinds.Placed.{Placed}
use Rattle.plane.specs.declared.window.Window2.{Window2}
use Rattle.area_drawings.specs.AreaLimits.{area_limit}
use Rattle.area_drawings.specs.Drawable.{HasForms, IsIn}
use Rattle.area_drawings.specs.Drawings.{curves_after, IsWindowOf}
use Rattle.area_drawings.specs.KeptPoints.{points_in_column}
use Rattle.area_drawings.specs.KeptRows.{Kept, counts_in, vertices_in}

-- the curves of a line by its vertices
abbrev pub seen_curves : List Seen → List Curve
seen_curves [] = []
seen_curves (v ∷ vs) = curves_after v.at None vs

-- vertices of rows, one row after another, by how many each has
abbrev pub cut : List ℕ → List Seen → List (List Seen)
cut [] vs = []
cut (n ∷ ns) vs = take n vs ∷ cut ns (drop n vs)

abbrev pub total : List ℕ → ℕ
total [] = 0
total (n ∷ ns) = n + total ns

abbrev pub kept_curves : List ℕ → List Seen → List Curve
kept_curves counts vertices = flat_map seen_curves (cut counts vertices)

-- places that are in a window
abbrev pub AreIn : Window2 → List Seen → Type 0
AreIn w vs = All (λ (v : Seen). IsIn w v.at) vs

abbrev pub ArePointsIn : Window2 → List Placed → Type 0
ArePointsIn w ps = All (λ (p : Placed). IsInside w.low w.high p.at) ps

-- the vertices that are kept of a table, none where there is no such table
abbrev pub vertices_there : Option Kept → List Seen
vertices_there None = []
vertices_there (Some k) = vertices_in k.lines

abbrev pub kept_vertices : List Kept → ℕ → List Seen
kept_vertices ks n = vertices_there (slice_get ks n)

-- an area of rows is too large by what is kept
abbrev pub is_kept_large : List Kept → List (List Row) → AreaOf → Bool
is_kept_large ks rows a =
    nat_lt area_limit (length (kept_vertices ks a.lines))
    || nat_lt area_limit (length (slice_index_or rows a.main []))

abbrev pub has_kept_large : List Kept → List (List Row) → List AreaOf → Bool
has_kept_large ks rows as_ = list_any (is_kept_large ks rows) as_

-- ---- one drawing
-- lines of that form, by how many vertices each has, and points can be drawn: all are in the
-- window of the form, and there are not too many
pub record AreDrawable (line : LineForm) (counts : List ℕ) (vertices : List Seen)
    (points : List Placed) : Type 0 where
  pub counted : total counts ≤ length vertices
  pub inside : (w : Window2) → IsWindowOf line.window w → AreIn w vertices
  pub few : length vertices ≤ area_limit
  pub points_inside : (w : Window2) → IsWindowOf line.window w → ArePointsIn w points
  pub few_points : length points ≤ area_limit

-- the drawing of lines of that form and of points
pub record AreDrawn (line : LineForm) (counts : List ℕ) (vertices : List Seen)
    (points : List Placed) (d : Plan) : Type 0 where
  pub window : IsWindowOf line.window d.window
  pub curves : d.curves ≡ kept_curves counts vertices
  pub placed : d.points ≡ points

-- ---- the drawing of an area
-- the points that are kept in the column of that number, none where there is no such table
abbrev pub column_points : ℕ → Option Kept → List Placed
column_points column None = []
column_points column (Some k) = points_in_column column k.points

abbrev pub curves_there : Option Kept → List Curve
curves_there None = []
curves_there (Some k) = kept_curves (counts_in k.lines) (vertices_in k.lines)

-- what is kept has all that an area is drawn from: its form is known, and what is kept of its
-- two tables can be drawn
pub record CanBeDrawn (l : Layout) (ks : List Kept) (a : AreaOf) : Type 0 where
  pub forms : HasForms l a
  pub strokes : Kept
  pub lines : slice_get ks a.lines ≡ Some strokes
  pub objects : Kept
  pub main : slice_get ks a.main ≡ Some objects
  pub drawable : AreDrawable forms.line (counts_in strokes.lines) (vertices_in strokes.lines)
      (points_in_column a.column objects.points)

-- the drawing of an area from what is kept
pub record IsDrawnFrom (l : Layout) (ks : List Kept) (a : AreaOf) (d : Plan) : Type 0 where
  pub forms : HasForms l a
  pub window : IsWindowOf forms.line.window d.window
  pub curves : d.curves ≡ curves_there (slice_get ks a.lines)
  pub points : d.points ≡ column_points a.column (slice_get ks a.main)
