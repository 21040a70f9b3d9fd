-- What words stand for.
use Rattle.std.specs.Prelude.{ℕ, ℤ, pos, List, [], ◌∷◌, Option, Some, None, Result, Ok, Err}
use Rattle.decimals.specs.Scaled.{scaled_of}
use Rattle.decimals.specs.declared.DecimalFault.{DecimalFault}
use Rattle.ili_grammar.specs.Syntax.{Codes}
use Rattle.resolver.specs.Resolved as model
use Rattle.resolver.specs.Resolved.{Limits, Form}
use Rattle.field_values.specs.declared.value.ValueFault.{ValueFault}
use Rattle.field_values.specs.Fields.{axes, bounds_fault, numbers_fault, field_fault}

-- what is read where no rule is broken
abbrev pub reading : {A : Type 0} → Option ValueFault → A → Result A ValueFault
reading None value = Ok value
reading (Some fault) value = Err fault

-- ---- numbers
-- the number of a word at the scale of its bounds; 0 where it is none
abbrev pub value_or_zero : Result ℤ DecimalFault → ℤ
value_or_zero (Ok v) = v
value_or_zero (Err fault) = pos 0

-- the number of a word in units of its bounds
abbrev pub units : Limits → List ℕ → ℤ
units limits word = value_or_zero (scaled_of word limits.scale)

-- a number within bounds
abbrev pub bounded_reading : Limits → ℤ → Result ℤ ValueFault
bounded_reading limits v = reading (bounds_fault limits (Ok v)) v

-- words as numbers on some axes, a word for each
abbrev pub numbers_on : List Limits → List (List ℕ) → List ℤ
numbers_on [] words = []
numbers_on (l ∷ ls) [] = []
numbers_on (l ∷ ls) (w ∷ ws) = units l w ∷ numbers_on ls ws

-- ---- columns
-- a number or a coordinate by its numbers, all else by its bytes
pub data Value : Type 0 where
  Numbers : List ℤ → Value
  Bytes : List ℕ → Value

-- the first of some words
abbrev pub bytes_of : List (List ℕ) → List ℕ
bytes_of [] = []
bytes_of (word ∷ words) = word

-- numbers on some axes, a word for each, or the first rule that one breaks
abbrev pub axes_reading : List Limits → List (List ℕ) → Result Value ValueFault
axes_reading ls words = reading (numbers_fault ls words) (Numbers (numbers_on ls words))

-- the words of a column by its form
abbrev pub value_of : Form → List (List ℕ) → Value
value_of (model.Text n) words = Bytes (bytes_of words)
value_of model.Date words = Bytes (bytes_of words)
value_of (model.Enumeration n) words = Bytes (bytes_of words)
value_of model.HAlignment words = Bytes (bytes_of words)
value_of model.VAlignment words = Bytes (bytes_of words)
value_of (model.Reference k) words = Bytes (bytes_of words)
value_of form words = Numbers (numbers_on (axes form) words)

-- a column by its form, or the first rule that its words break
abbrev pub column_reading : Form → Codes → List (List ℕ) → Result Value ValueFault
column_reading form codes words = reading (field_fault form codes words) (value_of form words)
