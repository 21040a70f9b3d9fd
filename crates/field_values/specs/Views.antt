-- Values of the code as what they stand for.
use Rattle.std.specs.Prelude.{ℕ, ℤ, Bool, List, ◌∷◌, [], Option, Result, Ok, Err, if◌then◌else◌}
use Rattle.std.specs.Option.{option_to_list}
use Rattle.field_values.specs.declared.value.ValueFault.{ValueFault}
use Rattle.field_values.specs.declared.value.ColumnValue.{ColumnValue}
use Rattle.field_values.specs.declared.value.ColumnValue.TheVariants as columns
use Rattle.field_values.specs.declared.value.VertexValue.{VertexValue}
use Rattle.field_values.specs.Readings.{Value, Numbers, Bytes, bytes_of}

-- a value of these words
abbrev pub value_view : List (List ℕ) → ColumnValue → Value
value_view words (columns.Number n) = Numbers (n ∷ [])
value_view words (columns.Plane p) = Numbers (p.x ∷ p.y ∷ [])
value_view words (columns.Space p z) = Numbers (p.x ∷ p.y ∷ z ∷ [])
value_view words columns.Word = Bytes (bytes_of words)

abbrev pub column_view : List (List ℕ) → Result ColumnValue ValueFault → Result Value ValueFault
column_view words (Ok value) = Ok (value_view words value)
column_view words (Err fault) = Err fault

-- a word that stands for itself where it passes its test
abbrev pub word_reading : Bool → ValueFault → Result ColumnValue ValueFault
word_reading passes fault = if passes then Ok columns.Word else Err fault

-- the numbers of a vertex
abbrev pub numbers_of : VertexValue → List ℤ
numbers_of v = v.at.x ∷ v.at.y ∷ option_to_list v.height

abbrev pub vertex_view : Result VertexValue ValueFault → Result (List ℤ) ValueFault
vertex_view (Ok v) = Ok (numbers_of v)
vertex_view (Err fault) = Err fault

-- the numbers of a height
abbrev pub height_view : Result (Option ℤ) ValueFault → Result (List ℤ) ValueFault
height_view (Ok height) = Ok (option_to_list height)
height_view (Err fault) = Err fault
