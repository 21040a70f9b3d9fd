-- The values of an IDENT list.
use Rattle.std.specs.Prelude.{ℕ, ℤ, Bool, true, false, ◌&&◌, nat_eq, is_none, if◌then◌else◌, List}
use Rattle.std.specs.Prelude.{[], ◌∷◌, ◌++◌, take, drop, map, slice_index_or, Option, Some, None}
use Rattle.std.specs.Cmp.Lexicographic.{pointwise}
use Rattle.ili_grammar.specs.Syntax.{Codes}
use Rattle.resolver.specs.Resolved.{Form, LineForm}
use Rattle.table_layout.specs.Layouts.{Role, Column, Table}
use Rattle.itf_reader.specs.Forms.{Kind, Start, Straight, OnArc, Vertex, Row}
use Rattle.field_values.specs.Fields.{width, field_fault, line_axes}
use Rattle.field_values.specs.Places.{is_same}
use Rattle.field_values.specs.Readings as reading
use Rattle.field_values.specs.Readings.{numbers_on, value_of}
use Rattle.itf_reader.specs.StrokeFindings.{is_sound_stroke}
use Rattle.itf_reader.specs.RowFindings.{is_counted}

-- a vertex as it is compared: its kind and its numbers
pub record KeyVertex : Type 0 where
  pub kind : Kind
  pub numbers : List ℤ

-- a value as it is compared: a number or a coordinate by its numbers, a line by its vertices, all
-- else by its bytes
pub data Value : Type 0 where
  Numbers : List ℤ → Value
  Bytes : List ℕ → Value
  Vertices : List KeyVertex → Value

-- ---- the values of a row
-- what words stand for, as it is compared
abbrev pub key_value : reading.Value → Value
key_value (reading.Numbers ns) = Numbers ns
key_value (reading.Bytes word) = Bytes word

-- the value of a column by its form, none where it is undefined or has a finding
abbrev pub form_value : Codes → Form → List (List ℕ) → Option Value
form_value codes form words =
    if is_none (field_fault form codes words) then Some (key_value (value_of form words)) else None

-- the values of columns, in order
abbrev pub columns_values : Codes → List Column → List (List ℕ) → List (Option Value)
columns_values codes [] words = []
columns_values codes (c ∷ cs) words =
    form_value codes c.form (take (width c.form) words)
    ∷ columns_values codes cs (drop (width c.form) words)

-- a vertex by its kind and its numbers
abbrev pub key_vertex_of : LineForm → Vertex → KeyVertex
key_vertex_of l v = record { kind = v.kind; numbers = numbers_on (line_axes l) v.fields }

-- the value of a line, none where it is undefined or has a finding
abbrev pub line_value : Role → LineForm → List Vertex → Option Value
line_value role l [] = None
line_value role l (v ∷ vs) =
    if is_sound_stroke role l (v ∷ vs)
    then Some (Vertices (map (key_vertex_of l) (v ∷ vs)))
    else None

-- the values of lines, in order
abbrev pub lines_values : Role → List LineForm → List (List Vertex) → List (Option Value)
lines_values role [] strokes = []
lines_values role (l ∷ ls) [] = []
lines_values role (l ∷ ls) (s ∷ ss) = line_value role l s ∷ lines_values role ls ss

-- the values of a row: its columns, and its lines after them
abbrev pub row_values : Codes → Table → Row → List (Option Value)
row_values codes t r =
    columns_values codes t.columns (drop 1 r.fields) ++ lines_values t.role t.lines r.strokes

-- ---- an IDENT list
-- the values at some places, if there is one at each
abbrev pub and_value : Option Value → Option (List Value) → Option (List Value)
and_value (Some v) (Some vs) = Some (v ∷ vs)
and_value (Some v) None = None
and_value None vs = None

-- the values at these places, if there is one at each
abbrev pub values_at : List (Option Value) → List ℕ → Option (List Value)
values_at values [] = Some []
values_at values (p ∷ ps) = and_value (slice_index_or values p None) (values_at values ps)

-- the values of a row by a list, which no other row may have; none where one of them is none, or
-- where the row has too few or too many words
abbrev pub ident_values : Codes → Table → List ℕ → Row → Option (List Value)
ident_values codes t list r = if is_counted t r then values_at (row_values codes t r) list else None

-- ---- equal values
-- the same kind of vertex
abbrev pub is_same_kind : Kind → Kind → Bool
is_same_kind Start Start = true
is_same_kind Straight Straight = true
is_same_kind OnArc OnArc = true
is_same_kind k other = false

-- the same vertex: its kind and its numbers are the same
abbrev pub is_same_vertex : KeyVertex → KeyVertex → Bool
is_same_vertex a b = is_same_kind a.kind b.kind && pointwise is_same a.numbers b.numbers

-- the same value
abbrev pub is_same_value : Value → Value → Bool
is_same_value (Numbers a) (Numbers b) = pointwise is_same a b
is_same_value (Bytes a) (Bytes b) = pointwise nat_eq a b
is_same_value (Vertices a) (Vertices b) = pointwise is_same_vertex a b
is_same_value v other = false

-- the same values; none are the same as no others
abbrev pub are_same_values : Option (List Value) → Option (List Value) → Bool
are_same_values (Some vs) (Some ws) = pointwise is_same_value vs ws
are_same_values (Some vs) None = false
are_same_values None other = false
