-- What is wrong with the vertices of a line.
use Rattle.std.specs.Prelude.{ℕ, ℤ, Bool, true, false, ◌&&◌, not, if◌then◌else◌, List, [], ◌∷◌}
use Rattle.std.specs.Prelude.{◌++◌, drop, map, Option, Some, None, is_none}
use Rattle.std.specs.Option.{option_map}
use Rattle.std.specs.List.{list_all, flat_map}
use Rattle.resolver.specs.Resolved.{LineForm}
use Rattle.table_layout.specs.Layouts.{Role, Main, AreaLines, SurfaceLines}
use Rattle.field_values.specs.declared.value.ValueFault.{ValueFault}
use Rattle.field_values.specs.declared.value.ValueFault.TheVariants as faults
use Rattle.field_values.specs.Fields.{line_axes, vertex_fault}
use Rattle.field_values.specs.Places.{Place, place_named, is_same_place, is_no_arc}
use Rattle.field_values.specs.Readings.{numbers_on}
use Rattle.itf_reader.specs.declared.findings.Code.{Code}
use Rattle.itf_reader.specs.declared.findings.Code.TheVariants.{Undefined, Number, Decimals, Range}
use Rattle.itf_reader.specs.declared.findings.Code.TheVariants.{Text, Date, Enum, Coord, Arcs, Arc}
use Rattle.itf_reader.specs.declared.findings.Code.TheVariants.{Short}
use Rattle.itf_reader.specs.Findings.{Finding, Nothing}
use Rattle.itf_reader.specs.Forms.{Kind, Start, Straight, OnArc, Vertex}

-- a finding at a line and in a column, where a test failed
abbrev pub finding_at : ℕ → ℕ → Option Code → List Finding
finding_at line column None = []
finding_at line column (Some code) =
    record { line = line; column = column; code = code; other = Nothing } ∷ []

-- a code, where a test failed
abbrev pub code_if : Bool → Code → Option Code
code_if failed code = if failed then Some code else None

-- the first of two tests that fails
abbrev pub first_code : Option Code → Option Code → Option Code
first_code (Some code) other = Some code
first_code None other = other

-- the code of a rule that words break
abbrev pub code_of : ValueFault → Code
code_of faults.Undefined = Undefined
code_of faults.Number = Number
code_of faults.Decimals = Decimals
code_of faults.Range = Range
code_of faults.Text = Text
code_of faults.Date = Date
code_of faults.Enum = Enum
code_of faults.Coord = Coord

-- ---- single vertices
-- the vertex is one on an arc, and not an end of it
abbrev pub is_on_arc : Kind → Bool
is_on_arc OnArc = true
is_on_arc Start = false
is_on_arc Straight = false

-- what is wrong with a vertex: its fields break a rule, or it lies on an arc where the line may
-- have none
abbrev pub vertex_code : LineForm → Vertex → Option Code
vertex_code l v =
    first_code (option_map code_of (vertex_fault l v.fields))
    (code_if (is_on_arc v.kind && not l.arcs) Arcs)

-- the finding of a vertex, where it has one
abbrev pub vertex_finding : LineForm → ℕ → Vertex → List Finding
vertex_finding l column v = finding_at v.line column (vertex_code l v)

-- a vertex as it is read: its place, its line and its kind
pub record Seen : Type 0 where
  pub at : Place
  pub line : ℕ
  pub kind : Kind

-- the place that the first two fields of a vertex name
abbrev pub place_of : LineForm → Vertex → Place
place_of l v = place_named l.window v.fields

-- a vertex by its place, its line of the transfer and its kind
abbrev pub seen : LineForm → Vertex → Seen
seen l v = record { at = place_of l v; line = v.line; kind = v.kind }

-- the height of a vertex, none where its line has none
abbrev pub heights_of : LineForm → Vertex → List ℤ
heights_of l v = drop 2 (numbers_on (line_axes l) v.fields)

-- ---- vertices that are all clean
-- the middle one is an ARCP, and no arc leads from the first over it to the last
abbrev pub is_bad_arc : Seen → Seen → Seen → Bool
is_bad_arc s m e = is_on_arc m.kind && is_no_arc s.at m.at e.at

-- three vertices that follow each other: a bad arc is reported at the one that ends it
abbrev pub arc_finding : ℕ → Seen → Seen → Seen → List Finding
arc_finding column s m e = finding_at e.line column (code_if (is_bad_arc s m e) Arc)

-- the findings of the arcs of a line: one for each three vertices at most
abbrev pub arc_findings : ℕ → List Seen → List Finding
arc_findings column [] = []
arc_findings column (s ∷ []) = []
arc_findings column (s ∷ m ∷ []) = []
arc_findings column (s ∷ m ∷ e ∷ vs) = arc_finding column s m e ++ arc_findings column (m ∷ e ∷ vs)

-- each ARCP makes an arc with the vertices beside it
abbrev pub are_arcs : List Seen → Bool
are_arcs [] = true
are_arcs (s ∷ []) = true
are_arcs (s ∷ m ∷ []) = true
are_arcs (s ∷ m ∷ e ∷ vs) = not (is_bad_arc s m e) && are_arcs (m ∷ e ∷ vs)

-- all vertices lie at one place
abbrev pub is_one_place : List Seen → Bool
is_one_place [] = true
is_one_place (v ∷ vs) = list_all (λ w. is_same_place v.at w.at) vs

-- the lines of an AREA
abbrev pub is_of_area : Role → Bool
is_of_area (AreaLines main column) = true
is_of_area Main = false
is_of_area (SurfaceLines main) = false

-- a line of an AREA with one distinct point
abbrev pub is_short : Role → List Seen → Bool
is_short role [] = false
is_short role (v ∷ vs) = is_of_area role && is_one_place (v ∷ vs)

-- the finding of a line that is one place; it is reported at the vertex that begins the line
abbrev pub short_finding : Role → ℕ → List Seen → List Finding
short_finding role column [] = []
short_finding role column (v ∷ vs) =
    finding_at v.line column (code_if (is_short role (v ∷ vs)) Short)

-- ---- lines
-- no vertex has a finding of its own
abbrev pub is_clean : LineForm → Vertex → Bool
is_clean l v = is_none (vertex_code l v)

-- no vertex of the line has a finding of its own
abbrev pub are_clean : LineForm → List Vertex → Bool
are_clean l vs = list_all (is_clean l) vs

-- all vertices of a line, as they are read
abbrev pub all_seen : LineForm → List Vertex → List Seen
all_seen l vs = map (seen l) vs

-- what is wrong with the vertices of a line; arcs and the length are judged where each vertex is
-- clean
abbrev pub stroke_findings : Role → LineForm → ℕ → List Vertex → List Finding
stroke_findings role l column vs =
    if are_clean l vs
    then short_finding role column (all_seen l vs) ++ arc_findings column (all_seen l vs)
    else flat_map (vertex_finding l column) vs

-- nothing is wrong with vertices that are clean
abbrev pub is_whole : Role → List Seen → Bool
is_whole role vs = not (is_short role vs) && are_arcs vs

-- nothing is wrong with the vertices of a line
abbrev pub is_sound_stroke : Role → LineForm → List Vertex → Bool
is_sound_stroke role l vs = are_clean l vs && is_whole role (all_seen l vs)
