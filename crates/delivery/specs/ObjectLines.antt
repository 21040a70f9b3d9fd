-- The lines of the objects of a SURFACE, from what is kept of the rows of its helper table.
use Rattle.std.specs.Prelude.{◌≡◌, ℕ, zero, suc, Bool, ◌||◌, nat_lt, List, [], ◌∷◌, ◌++◌, length}
use Rattle.std.specs.Prelude.{map, Option, Some, None}
use Rattle.std.specs.Borrow.{Bor}
use Rattle.std.specs.List.{All}
use Rattle.std.specs.Global.{Vec}
use Rattle.resolver.specs.Resolved.{LineForm}
use Rattle.table_layout.specs.Layouts.{Layout}
use Rattle.itf_reader.specs.Forms.{Row}
use Rattle.itf_reader.specs.Layouts.{wanted_of}
use Rattle.itf_reader.specs.RowForms.{EachRow, IsCounted}
use Rattle.itf_reader.specs.StrokeFindings.{Seen}
use Rattle.itf_reader.specs.declared.rows.values.ReadVertex.{ReadVertex}
use Rattle.ident_refs.specs.KeysOfRows.{HasKeys}
use Rattle.ident_refs.specs.NamedRows.{Named}
use Rattle.ident_refs.specs.declared.sorted.Keys.{Keys}
use Rattle.area_drawings.specs.AreaLimits.{area_limit}
use Rattle.area_drawings.specs.KeptDrawings.{cut}
use Rattle.area_drawings.specs.KeptRows.{Kept, counts_in, vertices_in}
use Rattle.area_drawings.specs.Strokes.{CanDraw, strokes_curves, strokes_view}
use Rattle.delivery.specs.Judging.{IsClean}
use Rattle.delivery.specs.KeptRows.{all_kept, changed_at, transfer_so_far}
use Rattle.delivery.specs.Surfaces.{Boundary, is_wide}

-- ---- the lines of objects
-- so many objects without lines
abbrev pub no_lines : ℕ → List (List (List Seen))
no_lines zero = []
no_lines (suc n) = [] ∷ no_lines n

-- one line more of an object
abbrev pub with_line : List Seen → List (List Seen) → List (List Seen)
with_line line lines = lines ++ line ∷ []

-- one line more of the object at a place, if there is one
abbrev pub added_at : Option ℕ → List Seen → List (List (List Seen)) → List (List (List Seen))
added_at None line objects = objects
added_at (Some place) line objects = changed_at place (with_line line) objects

-- lines added to objects, each to the one at its place
abbrev pub grouped : List (Option ℕ) → List (List Seen) → List (List (List Seen))
    → List (List (List Seen))
grouped [] lines objects = objects
grouped (p ∷ ps) [] objects = objects
grouped (p ∷ ps) (line ∷ lines) objects = grouped ps lines (added_at p line objects)

-- the places of the objects that rows name
abbrev pub named_rows : List Named → List (Option ℕ)
named_rows ns = map (λ n. n.row) ns

-- the first of some places, none where there is none
abbrev pub first_place : List (Option ℕ) → Option ℕ
first_place [] = None
first_place (p ∷ ps) = p

-- ---- their boundaries
-- the boundaries of objects with these lines, each in a line of the transfer
abbrev pub drawn : List (List (List Seen)) → List ℕ → List Boundary
drawn [] lines = []
drawn (o ∷ os) [] = []
drawn (o ∷ os) (n ∷ ns) = record { line = n; curves = strokes_curves o } ∷ drawn os ns

-- the lines of each object can be drawn
abbrev pub CanAllDraw : LineForm → List (List (List Seen)) → Type 0
CanAllDraw form objects = All (CanDraw form) objects

-- no boundary is judged, by the form of the lines and by what is kept of them
abbrev pub all_skipped : LineForm → Kept → Bool
all_skipped form kept =
    is_wide form.window || nat_lt area_limit (length (vertices_in kept.lines))

-- the lines of so many objects, by what is kept of the rows and by what these name
abbrev pub lines_of : Kept → List Named → ℕ → List (List (List Seen))
lines_of kept named objects =
    grouped (named_rows named) (cut (counts_in kept.lines) (vertices_in kept.lines))
    (no_lines objects)

-- ---- the code's values
abbrev pub object_view : Vec (Bor (List ReadVertex)) → List (List Seen)
object_view o = strokes_view o.items

abbrev pub objects_view : List (Vec (Bor (List ReadVertex))) → List (List (List Seen))
objects_view os = map object_view os

-- ---- what is kept of rows
-- these rows of a layout's tables came, each with the number of its table, which meet the
-- declarations; this is kept of them, and these are their keys
pub record AreKeptClean (l : Layout) (rows : List (ℕ × Row)) (places : List Kept)
    (keys : Keys) : Type 0 where
  pub clean : IsClean l (transfer_so_far l rows)
  pub counted : EachRow IsCounted (map wanted_of l.tables) (transfer_so_far l rows)
  pub kept : places ≡ all_kept l.codes l.tables (transfer_so_far l rows)
  pub has_keys : HasKeys l keys rows
