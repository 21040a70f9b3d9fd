-- What is wrong with the values of rows.
use Rattle.std.specs.Prelude.{ℕ, ◌+◌, Bool, ◌&&◌, not, ◌==◌, if◌then◌else◌, List, [], ◌∷◌, ◌++◌}
use Rattle.std.specs.Prelude.{length, take, drop, Option, Some, None}
use Rattle.std.specs.Option.{option_map}
use Rattle.std.specs.List.{list_all}
use Rattle.ili_grammar.specs.Syntax.{Codes}
use Rattle.resolver.specs.Resolved.{Form, LineForm}
use Rattle.table_layout.specs.Layouts.{Role, Column, Table}
use Rattle.itf_reader.specs.declared.findings.Code.{Code}
use Rattle.itf_reader.specs.declared.findings.Code.TheVariants.{Count, Undefined}
use Rattle.itf_reader.specs.Findings.{Finding}
use Rattle.itf_reader.specs.Forms.{Vertex, Row}
use Rattle.field_values.specs.Fields.{is_undefined, width, field_fault}
use Rattle.itf_reader.specs.StrokeFindings.{finding_at, code_if, code_of, stroke_findings}

-- what fails at a mandatory column
abbrev pub field_code : Form → Codes → List (List ℕ) → Option Code
field_code form codes words = option_map code_of (field_fault form codes words)

-- what fails at a column: in an optional one not that all its words are the undefined word
abbrev pub column_code : Codes → Column → List (List ℕ) → Option Code
column_code codes c words =
    if c.optional
    && list_all (is_undefined codes) words then None else field_code c.form codes words

-- how many words some columns have
abbrev pub widths : List Column → ℕ
widths [] = 0
widths (c ∷ cs) = width c.form + widths cs

-- the row has one word for its identification, and those of its columns
abbrev pub is_counted : Table → Row → Bool
is_counted t r = length r.fields == (1 + widths t.columns)

-- the findings of columns in a line of the transfer, the first of which has that number, and their
-- words
abbrev pub columns_findings : Codes → ℕ → ℕ → List Column → List (List ℕ) → List Finding
columns_findings codes line number [] words = []
columns_findings codes line number (c ∷ cs) words =
    finding_at line number (column_code codes c (take (width c.form) words))
    ++ columns_findings codes line (number + 1) cs (drop (width c.form) words)

-- the findings of a polyline of an object in that line of the transfer; an undefined one has no
-- vertices
abbrev pub line_findings : Role → ℕ → ℕ → LineForm → List Vertex → List Finding
line_findings role line number l [] = finding_at line number (code_if (not l.optional) Undefined)
line_findings role line number l (v ∷ vs) = stroke_findings role l number (v ∷ vs)

-- the findings of the lines of an object, the first of which has that number
abbrev pub lines_findings : Role → ℕ → ℕ → List LineForm → List (List Vertex) → List Finding
lines_findings role line number [] strokes = []
lines_findings role line number (l ∷ ls) [] = []
lines_findings role line number (l ∷ ls) (s ∷ ss) =
    line_findings role line number l s ++ lines_findings role line (number + 1) ls ss

-- the findings of a row; one with too few or too many words has no other finding
abbrev pub row_findings : Codes → Table → Row → List Finding
row_findings codes t r =
    if is_counted t r
    then columns_findings codes r.line 1 t.columns (drop 1 r.fields)
    ++ lines_findings t.role r.line (1 + length t.columns) t.lines r.strokes
    else finding_at r.line 0 (Some Count)
