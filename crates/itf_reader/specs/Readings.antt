-- What a reader answers for the logical lines of a text.
use Rattle.std.specs.Prelude.{◌≡◌, ℕ, ◌+◌, ◌⊎◌, List, ◌∷◌, ◌++◌, Some, None}
use Rattle.itf_lines.specs.declared.logical.LineFault.TheVariants.{OpenContinue, StrayCont}
use Rattle.itf_lines.specs.LogicalLines.{LogicalLine, LogicalLines}
use Rattle.itf_reader.specs.Forms.{Form, Row, TopicRows}
use Rattle.itf_reader.specs.TransferText.{IsText, TransferText, Begins, IsFaultAt}
use Rattle.itf_reader.specs.Machine.{Code}
use Rattle.itf_reader.specs.Codes.{HasCode}

-- the codes of a text that is no transfer
pub data Structure : Type 0 where
  OfLine : Code → Structure
  End Continue Cont : Structure

-- the text has no fault of continuation, and its lines are the text of that transfer
abbrev pub IsRead : Form → LogicalLines → List (List Row) → Type 0
IsRead form given transfer = (given.fault ≡ None) × TransferText form given.lines transfer

-- the first line with which the lines begin no text, with its code; where all lines begin one, the
-- line of the fault of continuation; and where there is none, the line after the last one, for a
-- text that ends too soon
pub data IsRefused (form : Form) (given : LogicalLines) : ℕ → Structure → Type 0 where
  at_line : (front rest : List LogicalLine) (l : LogicalLine) (code : Code)
      → given.lines ≡ front ++ l ∷ rest → IsFaultAt form front l → HasCode form front l code
      → IsRefused form given l.number (OfLine code)
  at_open : (n : ℕ) → Begins form given.lines → given.fault ≡ Some (OpenContinue n)
      → IsRefused form given n Continue
  at_stray : (n : ℕ) → Begins form given.lines → given.fault ≡ Some (StrayCont n)
      → IsRefused form given n Cont
  at_end : Begins form given.lines → ((ts : List TopicRows) → IsText form ts given.lines → ⊥)
      → given.fault ≡ None → IsRefused form given (given.total + 1) End

-- the lines are read, or refused
abbrev pub HasAnswer : Form → LogicalLines → Type 0
HasAnswer form given =
    ((transfer : List (List Row)) × IsRead form given transfer)
    ⊎ ((n : ℕ) × (code : Structure) × IsRefused form given n code)
