-- What a transfer is that comes in pieces.
use Rattle.std.specs.Prelude.{◌≡◌, ⊤, ℕ, ◌+◌, Bool, true, false, List, [], ◌++◌, Option, Some, None}
use Rattle.std.specs.Prelude.{Result, Ok, Err}
use Rattle.itf_lines.specs.declared.logical.LineFault.{LineFault}
use Rattle.itf_lines.specs.declared.logical.LineFault.TheVariants.{OpenContinue, StrayCont}
use Rattle.itf_lines.specs.declared.logical.LineEnd.{LineEnd}
use Rattle.itf_lines.specs.LogicalLines.{LogicalLine, LogicalLines}
use Rattle.itf_reader.specs.declared.transfer.Transfer.{Transfer}
use Rattle.itf_reader.specs.declared.refusal.ReadRefusal.{ReadRefusal}
use Rattle.itf_reader.specs.declared.refusal.ReadRefusal.TheVariants as refusals
use Rattle.itf_reader.specs.Forms.{Form, Row}
use Rattle.itf_reader.specs.Machine.{start, has_ended}
use Rattle.itf_reader.specs.Readings.{Structure, End, Continue, Cont}
use Rattle.itf_reader.specs.Refusals.{fault_of}
use Rattle.itf_reader.specs.ClosedRows.{by_table}
use Rattle.itf_reader.specs.RowFeeds.{Standing, standing, stopped, after_lines, shown_rows}
use Rattle.itf_reader.specs.Views.{transfer_of}

-- where a text is at fault whose lines are all taken, by its fault of continuation, whether ENDE
-- has come, and the number of its lines; none where it is a transfer
abbrev pub fault_after : Option LineFault → Bool → ℕ → Option (ℕ × Structure)
fault_after (Some (OpenContinue n)) ended total = Some (n, Continue)
fault_after (Some (StrayCont n)) ended total = Some (n, Cont)
fault_after None true total = None
fault_after None false total = Some (total + 1, End)

-- where a text is at fault that ends there
abbrev pub fault_at : Standing → LineEnd → Option (ℕ × Structure)
fault_at (stopped n code) end = Some (n, code)
fault_at (standing s) end = fault_after end.fault (has_ended s) end.total

-- the rows of each table, or the line at fault and its code
pub data Answer : Type 0 where
  read : List (List Row) → Answer
  refused : ℕ → Structure → Answer

abbrev pub answer : Form → List (ℕ × Row) → Option (ℕ × Structure) → Answer
answer f rows None = read (by_table f rows)
answer f rows (Some fault) = refused fault.0 fault.1

-- What a TransferFeed is seen as: whether a call ran out of memory, of which nothing else is said
-- then; the rows that were closed, each with the number of its table; and the state of the machine.
pub record TransferState : Type 0 where
  pub failed : Bool
  pub rows : List (ℕ × Row)
  pub at : Standing

-- before a text
abbrev pub opening : TransferState
opening = record { failed = false; rows = []; at = standing start }

-- the answer where reading goes on from a state with these lines and the text ends after them
abbrev pub read_from : Form → TransferState → List LogicalLine → LineEnd → Answer
read_from f s lines end =
    answer f (s.rows ++ shown_rows f s.at lines) (fault_at (after_lines f s.at lines) end)

-- what is known at the end of some lines
abbrev pub end_of : LogicalLines → LineEnd
end_of given = record { fault = given.fault; total = given.total }

-- the code's answer is that one, unless memory ran out
abbrev pub Gives : Answer → Result Transfer ReadRefusal → Type 0
Gives a (Ok transfer) = a ≡ read (transfer_of transfer)
Gives a (Err (refusals.At line code)) = a ≡ refused line (fault_of code)
Gives a (Err refusals.Memory) = ⊤

-- the code finds the text at fault there; it takes no memory
abbrev pub FindsFault : Option (ℕ × Structure) → Result ⊤ ReadRefusal → Type 0
FindsFault fault (Ok done) = fault ≡ None
FindsFault fault (Err (refusals.At line code)) = fault ≡ Some (line, fault_of code)
FindsFault fault (Err refusals.Memory) = ⊥
