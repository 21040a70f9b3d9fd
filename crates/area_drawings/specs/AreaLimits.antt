-- How large an area may be.
use Rattle.std.specs.Prelude.{◌≡◌, ℕ, ◌+◌, ◌≤◌, Bool, false, nat_lt, ◌||◌, List, [], ◌∷◌, length}
use Rattle.std.specs.Prelude.{Some, slice_get, slice_index_or}
use Rattle.std.specs.List.{list_any}
use Rattle.itf_reader.specs.Forms.{Vertex, Row}
use Rattle.plane.specs.Rule.Plans.{Plan}
use Rattle.table_layout.specs.Layouts.{AreaOf}

-- the greatest number of vertices of an area's lines, and of rows of its main table
abbrev pub area_limit : ℕ
area_limit = 16000000

-- how many vertices lines have
abbrev pub vertices_in : List (List Vertex) → ℕ
vertices_in [] = 0
vertices_in (line ∷ lines) = length line + vertices_in lines

-- how many vertices the lines of rows have
abbrev pub vertex_count : List Row → ℕ
vertex_count [] = 0
vertex_count (r ∷ rs) = vertices_in r.strokes + vertex_count rs

-- the table of an area's lines, or its main table, has more than the limit
abbrev pub is_too_large : List (List Row) → AreaOf → Bool
is_too_large rows a =
    nat_lt area_limit (vertex_count (slice_index_or rows a.lines []))
    || nat_lt area_limit (length (slice_index_or rows a.main []))

-- the area of that number is within the limits
abbrev pub IsWithinLimits : List (List Row) → List AreaOf → ℕ → Type 0
IsWithinLimits rows as_ k = (a : AreaOf) → slice_get as_ k ≡ Some a → is_too_large rows a ≡ false

-- some area is too large
abbrev pub has_too_large : List (List Row) → List AreaOf → Bool
has_too_large rows as_ = list_any (is_too_large rows) as_

-- the drawing has no more curves than the lines of an area may have vertices, and no more points
-- than its main table may have rows
pub record IsSmallPlan (d : Plan) : Type 0 where
  pub curves : length d.curves ≤ area_limit
  pub points : length d.points ≤ area_limit
