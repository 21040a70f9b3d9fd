-- What is kept of the rows of a transfer whose points are tested by links.
use Rattle.std.specs.Prelude.{◌≡◌, ℕ, ◌+◌, Bool, true, false, if◌then◌else◌, List, [], ◌∷◌, map}
use Rattle.std.specs.Prelude.{Some, slice_get}
use Rattle.std.specs.List.{list_any}
use Rattle.ili_grammar.specs.Syntax.{Codes}
use Rattle.resolver.specs.Resolved.{Coord2, Form, Reference, Window}
use Rattle.table_layout.specs.Layouts.{AreaOf, Column, Layout, Table}
use Rattle.itf_reader.specs.Forms.{Row}
use Rattle.itf_reader.specs.RowLines.{LinesRise}
use Rattle.ident_refs.specs.declared.sorted.Keys.{Keys}
use Rattle.area_drawings.specs.KeptPoints.{PointColumn, points_kept}
use Rattle.area_drawings.specs.KeptRows.{Kept}
use Rattle.area_drawings.specs.KeptViews.{points_of}
use Rattle.area_drawings.specs.declared.kept_points.KeptPoints.{KeptPoints}
use Rattle.area_links.specs.Pairs.{row_point}
use Rattle.area_links.specs.Rules.{Rule}
use Rattle.plane.specs.Rule.Plans.{Plan}
use Rattle.plane.specs.declared.kinds.Point.{Point}
use Rattle.delivery.specs.KeptRows.{of_tables, transfer_so_far}
use Rattle.delivery.specs.KeptViews.{HasTaken}
use Rattle.delivery.specs.ObjectLines.{AreKeptClean}
use Rattle.delivery.specs.declared.judging.linking.LinksKept.{LinksKept}

-- ---- the columns of points that a rule may name
-- values of that form are points of two axes
abbrev pub is_point : Form → Bool
is_point (Coord2 window) = true
is_point other = false

-- values of that form are references
abbrev pub is_reference : Form → Bool
is_reference (Reference table) = true
is_reference other = false

-- the numbers of the columns with points of two axes; the first of these columns has that number
abbrev pub point_columns : ℕ → List Column → List ℕ
point_columns n [] = []
point_columns n (c ∷ cs) =
    if is_point c.form then n ∷ point_columns (n + 1) cs else point_columns (n + 1) cs

-- the same of a table with a reference; no rule names a column of another
abbrev pub link_columns : Table → List ℕ
link_columns t =
    if list_any (λ (c : Column). is_reference c.form) t.columns
    then point_columns 0 t.columns
    else []

-- ---- what is kept of rows
-- the points of the rows of a table in those columns
abbrev pub link_points : Codes → Table → List Row → List PointColumn
link_points codes t rows = points_kept codes t (link_columns t) rows

-- the same of each table
abbrev pub all_link_points : Codes → List Table → List (List Row) → List (List PointColumn)
all_link_points codes ts transfer = of_tables (link_points codes) ts transfer

-- the code's values
abbrev pub points_in : List KeptPoints → List (List PointColumn)
points_in ks = map points_of ks

-- the points that links may name in these rows of a layout's tables, each with the number of its
-- table
abbrev pub HasLinkPoints : Layout → List (ℕ × Row) → List (List PointColumn) → Type 0
HasLinkPoints l rows points =
    points ≡ all_link_points l.codes l.tables (transfer_so_far l rows)

-- these rows of a layout's tables came, each with the number of its table
pub record HasLinked (l : Layout) (rows : List (ℕ × Row)) (k : LinksKept) : Type 0 where
  pub judged : HasTaken l rows k.judged
  pub points : HasLinkPoints l rows (points_in k.points.items)

-- these rows came, which meet the declarations and whose lines rise in each table; this is kept of
-- them, these are the points that links may name, and these are their keys
pub record AreLinksKept (l : Layout) (rows : List (ℕ × Row)) (places : List Kept)
    (points : List (List PointColumn)) (keys : Keys) : Type 0 where
  pub kept : AreKeptClean l rows places keys
  pub points_are : HasLinkPoints l rows points
  pub rise : LinesRise (transfer_so_far l rows)

-- ---- objects
-- The row has a point in the area's column, and the point of that number in the drawing is that
-- one, with the row's line.
pub record IsNumbered (l : Layout) (t : Table) (a : AreaOf) (d : Plan) (r : Row)
    (k : ℕ) : Type 0 where
  pub point : Point
  pub has : row_point l.codes t a.column r ≡ Some point
  pub at : slice_get d.points k ≡ Some (record { at = point; line = r.line })

-- ---- rules
-- A rule names columns of a table of the layout, one with points of two axes and one that refers to
-- the main table of the area.
pub record IsGoodRule (l : Layout) (r : Rule) : Type 0 where
  pub t : Table
  pub point : Column
  pub reference : Column
  pub a : AreaOf
  pub window : Window
  pub table_is : slice_get l.tables r.table ≡ Some t
  pub point_is : slice_get t.columns r.point ≡ Some point
  pub of_points : point.form ≡ Coord2 window
  pub reference_is : slice_get t.columns r.reference ≡ Some reference
  pub area_is : slice_get l.areas r.area ≡ Some a
  pub refers : reference.form ≡ Reference a.main
