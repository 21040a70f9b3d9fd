-- What the words of a mandatory column are where they meet its form.
use Rattle.std.specs.Prelude.{◌≡◌, ◌≤ℤ◌, ℕ, ℤ, ⊤, List, [], ◌∷◌}
use Rattle.std.specs.List.{Any, AllPass}
use Rattle.decimals.specs.Scaled.{HasValue}
use Rattle.ili_grammar.specs.Syntax.{Codes}
use Rattle.resolver.specs.Resolved as model
use Rattle.resolver.specs.Resolved.{Limits, Form}
use Rattle.field_values.specs.Fields.{axes, is_text, is_date, is_leaf}

-- the word spells a number that has a value at the scale of the bounds, and it lies within them
pub record IsNumberWithin (limits : Limits) (word : List ℕ) : Type 0 where
  pub value : ℤ
  pub read : HasValue word limits.scale value
  pub low : limits.low ≤ℤ value
  pub high : value ≤ℤ limits.high

-- numbers on several axes, a word for each
abbrev pub AreNumbersWithin : List Limits → List (List ℕ) → Type 0
AreNumbersWithin [] words = ⊤
AreNumbersWithin (l ∷ ls) [] = ⊤
AreNumbersWithin (l ∷ ls) (w ∷ ws) = IsNumberWithin l w × AreNumbersWithin ls ws

-- the words are a value of the form
abbrev pub IsValue : Form → List (List ℕ) → Type 0
IsValue (model.Text n) words = AllPass (is_text n) words
IsValue model.Date words = AllPass is_date words
IsValue (model.Enumeration n) words = AllPass (is_leaf n) words
IsValue model.HAlignment words = AllPass (is_leaf 3) words
IsValue model.VAlignment words = AllPass (is_leaf 5) words
IsValue form words = AreNumbersWithin (axes form) words

-- no word is undefined, and the words are a value
pub record Meets (form : Form) (codes : Codes) (words : List (List ℕ)) : Type 0 where
  pub defined : Any (λ word. word ≡ codes.undefined ∷ []) words → ⊥
  pub value : IsValue form words
