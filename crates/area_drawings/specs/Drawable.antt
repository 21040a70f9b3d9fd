-- What the drawing of an area stands on: the form of its lines, and places in its window.
use Rattle.std.specs.Prelude.{◌≡◌, ℕ, List, [], ◌∷◌, Option, Some, None, slice_get}
use Rattle.std.specs.Option.{option_map, IfSome}
use Rattle.resolver.specs.Resolved.{LineForm}
use Rattle.resolver.specs.Sound.{IsNarrow}
use Rattle.table_layout.specs.Layouts.{AreaOf, Layout}
use Rattle.field_values.specs.Places.{Place, place_view}
use Rattle.itf_reader.specs.RowReadings.{vertex_view}
use Rattle.itf_reader.specs.StrokeFindings.{Seen}
use Rattle.itf_reader.specs.declared.rows.values.ReadVertex.{ReadVertex}
use Rattle.plane.specs.Rule.Windows.{IsInside}
use Rattle.plane.specs.declared.kinds.Curve.{Curve}
use Rattle.plane.specs.declared.window.Window2.{Window2}
use Rattle.area_drawings.specs.Drawings.{point_at, curves_after, lines_in}
use Rattle.area_drawings.specs.declared.curves.Pen.{Pen}

-- ---- the layout
-- an area has one form of lines, whose window is narrow
pub record HasForms (l : Layout) (a : AreaOf) : Type 0 where
  pub line : LineForm
  pub lines : lines_in (slice_get l.tables a.lines) ≡ line ∷ []
  pub narrow : IsNarrow line.window

-- a place is in the window of a drawing
abbrev pub IsIn : Window2 → Place → Type 0
IsIn w p = IsInside w.low w.high (point_at p)

-- ---- a line while it is drawn
abbrev pub over_view : Option ReadVertex → Option Seen
over_view over = option_map vertex_view over

-- the curves that are still to be drawn where the pen goes on to these vertices
abbrev pub rest_curves : Pen → List Seen → List Curve
rest_curves pen vs = curves_after (place_view pen.at) (over_view pen.over) vs

-- the vertices that were read and have no curve yet
abbrev pub waiting : Option ReadVertex → ℕ
waiting None = 0
waiting (Some over) = 1

pub record IsPenIn (w : Window2) (pen : Pen) : Type 0 where
  pub at : IsIn w (place_view pen.at)
  pub over : IfSome pen.over (λ over. IsIn w (place_view over.at))
