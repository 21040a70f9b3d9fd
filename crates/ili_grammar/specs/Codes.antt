-- The codes of a fault.
use Rattle.std.specs.Prelude.{ℕ, List, Bool, nat_eq, codes}
use Rattle.std.specs.List.{starts_with}
use Rattle.ili_grammar.specs.declared.syntax.SyntaxCode as stored
use Rattle.ili_grammar.specs.declared.syntax.SyntaxCode.TheVariants as variants

-- the codes of faults of the grammar
pub data Code : Type 0 where
  Expected EndName FixFormat Views LineForm Scaling Codes Deep : Code

-- the bytes begin with the letter S
abbrev pub begins_with_s : List ℕ → Bool
begins_with_s bs = starts_with nat_eq bs (codes "S")

-- the code that a fault of the reader names
abbrev pub code_of : stored.SyntaxCode → Code
code_of variants.Expected = Expected
code_of variants.EndName = EndName
code_of variants.FixFormat = FixFormat
code_of variants.Views = Views
code_of variants.LineForm = LineForm
code_of variants.Scaling = Scaling
code_of variants.Codes = Codes
code_of variants.Deep = Deep
