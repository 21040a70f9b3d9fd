-- Which rule the words of a mandatory column or of a vertex break first.
use Rattle.std.specs.Prelude.{ℕ, Bool, ◌&&◌, ◌||◌, not, nat_lt, nat_le, ◌==◌, nat_eq, if◌then◌else◌}
use Rattle.std.specs.Prelude.{List, [], ◌∷◌, length, take, drop, slice_index_or, Option, Some, None}
use Rattle.std.specs.Prelude.{Result, Ok, Err, ℤ}
use Rattle.std.specs.Prelude.{int_lt}
use Rattle.std.specs.Str.{all_ascii_digits}
use Rattle.std.specs.Option.{option_to_list}
use Rattle.std.specs.List.{list_any, list_all}
use Rattle.std.specs.Cmp.Lexicographic.{pointwise}
use Rattle.decimals.specs.Numerals.{is_digits, number}
use Rattle.decimals.specs.Scaled.{scaled_of}
use Rattle.decimals.specs.declared.DecimalFault.{DecimalFault}
use Rattle.decimals.specs.declared.DecimalFault.TheVariants.{NotNumber, TooLong, MoreDecimals}
use Rattle.ili_grammar.specs.Syntax.{Codes}
use Rattle.resolver.specs.Resolved as model
use Rattle.resolver.specs.Resolved.{Limits, Form, LineForm}
use Rattle.field_values.specs.declared.value.ValueFault.{ValueFault}
use Rattle.field_values.specs.declared.value.ValueFault.TheVariants.{Undefined, Number, Decimals}
use Rattle.field_values.specs.declared.value.ValueFault.TheVariants.{Range, Text, Date, Enum, Coord}

-- the undefined word is the one byte of its code
abbrev pub is_undefined : Codes → List ℕ → Bool
is_undefined codes word = pointwise nat_eq word (codes.undefined ∷ [])

-- ---- numbers
-- what fails at a number: it is none, or too long; it has too many decimals; it is out of bounds
abbrev pub bounds_fault : Limits → Result ℤ DecimalFault → Option ValueFault
bounds_fault limits (Ok v) =
    if int_lt v limits.low || int_lt limits.high v then Some Range else None
bounds_fault limits (Err NotNumber) = Some Number
bounds_fault limits (Err TooLong) = Some Number
bounds_fault limits (Err MoreDecimals) = Some Decimals

-- what fails at the word of a number with these bounds
abbrev pub number_fault : Limits → List ℕ → Option ValueFault
number_fault limits word = bounds_fault limits (scaled_of word limits.scale)

-- the first of two tests that fails
abbrev pub first_fault : Option ValueFault → Option ValueFault → Option ValueFault
first_fault (Some fault) other = Some fault
first_fault None other = other

-- numbers on several axes, a word for each, word by word
abbrev pub numbers_fault : List Limits → List (List ℕ) → Option ValueFault
numbers_fault [] words = None
numbers_fault (l ∷ ls) [] = None
numbers_fault (l ∷ ls) (w ∷ ws) = first_fault (number_fault l w) (numbers_fault ls ws)

-- ---- words that are no number
-- at most that many bytes
abbrev pub is_text : ℕ → List ℕ → Bool
is_text most word = nat_le (length word) most

-- a number from the low to the high one
abbrev pub is_within : ℕ → ℕ → ℕ → Bool
is_within low high n = nat_le low n && nat_le n high

-- eight digits, a month from 01 to 12 and a day from 01 to 31
abbrev pub is_date : List ℕ → Bool
is_date word =
    (length word == 8)
    && (all_ascii_digits word
    && (is_within 1 12 (number (take 2 (drop 4 word))) && is_within 1 31 (number (drop 6 word))))

-- a zero at the front of two or more digits
abbrev pub has_leading_zero : List ℕ → Bool
has_leading_zero word = (slice_index_or word 0 0 == 48) && nat_lt 1 (length word)

-- digits alone, with no leading zero, and less than the number of leaves
abbrev pub is_leaf : ℕ → List ℕ → Bool
is_leaf leaves word = is_digits word && (not (has_leading_zero word) && nat_lt (number word) leaves)

-- each word passes a test, or the fault
abbrev pub word_fault : (List ℕ → Bool) → ValueFault → List (List ℕ) → Option ValueFault
word_fault test fault words = if list_all test words then None else Some fault

-- ---- the forms
-- how many words a column of this form has: one for each axis of a coordinate, else one
abbrev pub width : Form → ℕ
width (model.Coord2 w) = 2
width (model.AreaPoint w) = 2
width (model.Coord3 b) = 3
width other = 1

-- the bounds of words that are numbers, one for each word
abbrev pub axes : Form → List Limits
axes (model.Range l) = l ∷ []
axes (model.Dim1 l) = l ∷ []
axes (model.Dim2 l) = l ∷ []
axes (model.Radians l) = l ∷ []
axes (model.Grads l) = l ∷ []
axes (model.Degrees l) = l ∷ []
axes (model.Coord2 w) = w.x ∷ w.y ∷ []
axes (model.AreaPoint w) = w.x ∷ w.y ∷ []
axes (model.Coord3 b) = b.x ∷ b.y ∷ b.z ∷ []
axes other = []

-- what fails where no word is undefined; each word is an identification
abbrev pub value_fault : Form → List (List ℕ) → Option ValueFault
value_fault (model.Text n) words = word_fault (is_text n) Text words
value_fault model.Date words = word_fault is_date Date words
value_fault (model.Enumeration n) words = word_fault (is_leaf n) Enum words
value_fault model.HAlignment words = word_fault (is_leaf 3) Enum words
value_fault model.VAlignment words = word_fault (is_leaf 5) Enum words
value_fault form words = numbers_fault (axes form) words

-- an undefined word comes before all else
abbrev pub field_fault : Form → Codes → List (List ℕ) → Option ValueFault
field_fault form codes words =
    if list_any (is_undefined codes) words then Some Undefined else value_fault form words

-- ---- vertices
-- the axes of a line: x, y, and the height where its vertices have one
abbrev pub line_axes : LineForm → List Limits
line_axes l = l.window.x ∷ l.window.y ∷ option_to_list l.height

-- there is one field for each axis
abbrev pub count_fault : List Limits → List (List ℕ) → Option ValueFault
count_fault [] [] = None
count_fault [] (field ∷ fields) = Some Coord
count_fault (l ∷ ls) [] = Some Coord
count_fault (l ∷ ls) (field ∷ fields) = count_fault ls fields

-- the fields that have an axis are numbers within its bounds, and there is one for each axis
abbrev pub axes_fault : List Limits → List (List ℕ) → Option ValueFault
axes_fault axes_ fields = first_fault (numbers_fault axes_ fields) (count_fault axes_ fields)

-- what fails at the fields of a vertex of the line
abbrev pub vertex_fault : LineForm → List (List ℕ) → Option ValueFault
vertex_fault l fields = axes_fault (line_axes l) fields
