-- One pass over the physical lines: what it keeps between two of them, and what one of them
-- changes.
use Rattle.std.specs.Prelude.{ℕ, ◌+◌, Bool, true, false, List, [], ◌∷◌, ◌++◌, Option, Some, None}
use Rattle.std.specs.Prelude.{if◌then◌else◌}
use Rattle.itf_lines.specs.declared.word.LineWord.{LineWord}
use Rattle.itf_lines.specs.declared.word.LineWord.TheVariants.{Other}
use Rattle.itf_lines.specs.declared.logical.LineFault.{LineFault}
use Rattle.itf_lines.specs.declared.logical.LineFault.TheVariants.{OpenContinue, StrayCont}
use Rattle.itf_lines.specs.declared.partial.PartialLine.{PartialLine}
use Rattle.itf_lines.specs.declared.pass.State.{State}
use Rattle.itf_lines.specs.declared.pass.State.TheVariants as states
use Rattle.itf_lines.specs.declared.pass.Pass.{Pass as CodePass}
use Rattle.itf_lines.specs.PassStates.{OpenLine, PassState, in_the_head, between, waiting, broken}
use Rattle.itf_lines.specs.Words.{word_of}
use Rattle.itf_lines.specs.Fields.{fields}
use Rattle.itf_lines.specs.LogicalLines.{LogicalLine, head_line, is_slashes, is_cont, without_first}
use Rattle.itf_lines.specs.LogicalLines.{without_code, goes_on}

abbrev pub open_line_view : PartialLine → OpenLine
open_line_view g = record { number = g.number; word = g.word; fields = g.fields.items }

abbrev pub no_fields : ℕ → OpenLine
no_fields number = record { number = number; word = None; fields = [] }

abbrev pub add_field : ℕ → Option LineWord → List (List ℕ) → List ℕ → OpenLine
add_field number None fields field =
    record { number = number; word = Some (word_of field); fields = fields }
add_field number (Some word) fields field =
    record { number = number; word = Some word; fields = fields ++ field ∷ [] }

-- one more field
abbrev pub with_field : OpenLine → List ℕ → OpenLine
with_field held field = add_field held.number held.word held.fields field

abbrev pub with_fields : OpenLine → List (List ℕ) → OpenLine
with_fields held [] = held
with_fields held (field ∷ fields) = with_fields (with_field held field) fields

-- a line that has its word alone
abbrev pub with_word : ℕ → LineWord → OpenLine
with_word number word = record { number = number; word = Some word; fields = [] }

-- more fields after the word
abbrev pub with_others : OpenLine → List (List ℕ) → OpenLine
with_others held others =
    record { number = held.number; word = held.word; fields = held.fields ++ others }

abbrev pub line_by_word : ℕ → Option LineWord → List (List ℕ) → List LogicalLine
line_by_word number None fields = []
line_by_word number (Some word) fields =
    record { number = number; word = word; fields = fields } ∷ []

-- the logical line; none without a field
abbrev pub line_in : OpenLine → List LogicalLine
line_in held = line_by_word held.number held.word held.fields

abbrev pub any_word : Option LineWord → LineWord
any_word None = Other
any_word (Some word) = word

-- the same, also without a field
abbrev pub any_line : OpenLine → LogicalLine
any_line held = record { number = held.number; word = any_word held.word; fields = held.fields }

abbrev pub state_in : State → PartialLine → PassState
state_in states.Head partial = in_the_head
state_in states.Between partial = between
state_in (states.Waiting last) partial = waiting (open_line_view partial) last
state_in (states.Broken fault) partial = broken fault

-- the state of the code's machine
abbrev pub state_view : CodePass → PassState
state_view p = state_in p.state p.partial

-- the logical lines that a physical line completes, and the state after it
pub record Step : Type 0 where
  pub lines : List LogicalLine
  pub next : PassState

abbrev pub head_step : ℕ → List ℕ → Step
head_step number line =
    record {
      lines = head_line number line ∷ [];
      next = if is_slashes line then between else in_the_head;
    }

abbrev pub end_step : Bool → ℕ → OpenLine → Step
end_step true number held = record { lines = []; next = waiting held number }
end_step false number held = record { lines = line_in held; next = between }

abbrev pub fault_step : LineFault → Step
fault_step fault = record { lines = []; next = broken fault }

abbrev pub start_step : ℕ → List ℕ → Bool → Step
start_step number text goes_on =
    if is_cont (fields text)
    then fault_step (StrayCont number)
    else end_step goes_on number (with_fields (no_fields number) (fields text))

abbrev pub continue_step : ℕ → OpenLine → ℕ → List ℕ → Bool → Step
continue_step number held last text goes_on =
    if is_cont (fields text)
    then end_step goes_on number (with_fields held (without_first (fields text)))
    else fault_step (OpenContinue last)

-- what a physical line of that number does
abbrev pub step : ℕ → ℕ → List ℕ → PassState → Step
step code number line in_the_head = head_step number line
step code number line between = start_step number (without_code code line) (goes_on code line)
step code number line (waiting held last) =
    continue_step number held last (without_code code line) (goes_on code line)
step code number line (broken fault) = fault_step fault

-- the fault of a text that ends there
abbrev pub fault_at : PassState → Option LineFault
fault_at in_the_head = None
fault_at between = None
fault_at (waiting held last) = Some (OpenContinue last)
fault_at (broken fault) = Some fault

-- what a pass gives from a place on
pub record Rest : Type 0 where
  pub lines : List LogicalLine
  pub fault : Option LineFault

abbrev pub lines_then : List LogicalLine → Rest → Rest
lines_then lines rest = record { lines = lines ++ rest.lines; fault = rest.fault }

-- over physical lines, the first of which has that number
abbrev pub pass : ℕ → ℕ → PassState → List (List ℕ) → Rest
pass code number state [] = record { lines = []; fault = fault_at state }
pass code number state (line ∷ lines) =
    lines_then (step code number line state).lines
    (pass code (number + 1) (step code number line state).next lines)
