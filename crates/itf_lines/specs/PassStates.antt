-- The state of a pass between two physical lines.
use Rattle.std.specs.Prelude.{ℕ, List, Option}
use Rattle.itf_lines.specs.declared.word.LineWord.{LineWord}
use Rattle.itf_lines.specs.declared.logical.LineFault.{LineFault}

-- a line that is not complete yet: the word of its first field, and the fields after that
pub record OpenLine : Type 0 where
  pub number : ℕ
  pub word : Option LineWord
  pub fields : List (List ℕ)

-- the state of a pass between two physical lines
pub data PassState : Type 0 where
  in_the_head : PassState
  between : PassState
  waiting : OpenLine → ℕ → PassState
  broken : LineFault → PassState
