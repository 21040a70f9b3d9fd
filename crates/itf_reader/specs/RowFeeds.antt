-- How the lines of a transfer are taken one after another, where no closed object is kept.
use Rattle.std.specs.Prelude.{◌≡◌, ⊤, ℕ, Bool, List, [], ◌∷◌, ◌++◌, Option, Some, None, Result, Ok}
use Rattle.std.specs.Prelude.{Err}
use Rattle.itf_lines.specs.declared.word.LineWord.{LineWord}
use Rattle.itf_lines.specs.declared.word.LineWord.TheVariants.{Obje, Etab, Etop}
use Rattle.itf_lines.specs.LogicalLines.{LogicalLine}
use Rattle.itf_reader.specs.Forms.{Form, Row}
use Rattle.itf_reader.specs.Machine.{InTopic, State, tables, objects, strokes, Code, step}
use Rattle.itf_reader.specs.Readings.{Structure, OfLine}
use Rattle.itf_reader.specs.ClosedRows.{closes}

-- before a line, or stopped by a line at fault: its number and its code
pub data Standing : Type 0 where
  standing : State → Standing
  stopped : ℕ → Structure → Standing

abbrev pub without_tables : InTopic → InTopic
without_tables t = record { earlier = t.earlier; number = t.number; tables = [] }

-- the state without what a line of that word closes: an object, or the tables of a topic
abbrev pub forget_closed : State → LineWord → State
forget_closed (strokes r) Obje = objects r.inside
forget_closed (strokes r) Etab = objects r.inside
forget_closed (tables t) Etop = tables (without_tables t)
forget_closed state word = state

abbrev pub standing_by : ℕ → Result State Code → Standing
standing_by number (Ok state) = standing state
standing_by number (Err code) = stopped number (OfLine code)

-- where a line leads
abbrev pub after_line : Form → State → LogicalLine → Standing
after_line f s l = standing_by l.number (step f (forget_closed s l.word) l)

-- and after a line at fault to nowhere
abbrev pub next : Form → Standing → LogicalLine → Standing
next f (standing s) l = after_line f s l
next f (stopped number code) l = stopped number code

-- and where some lines lead
abbrev pub after_lines : Form → Standing → List LogicalLine → Standing
after_lines f at [] = at
after_lines f at (l ∷ ls) = after_lines f (next f at l) ls

-- the row that a line of that word closes, with the number of its table; most close none
abbrev pub shows : Standing → LineWord → List (ℕ × Row)
shows (standing s) word = closes s word
shows (stopped number code) word = []

-- the rows that some lines close
abbrev pub shown_rows : Form → Standing → List LogicalLine → List (ℕ × Row)
shown_rows f at [] = []
shown_rows f at (l ∷ ls) = shows at l.word ++ shown_rows f (next f at l) ls

-- the number of the table, where there is a row
abbrev pub number_shown : List (ℕ × Row) → Option ℕ
number_shown [] = None
number_shown (p ∷ ps) = Some p.0

-- that row, where there is one
abbrev pub Shows : List (ℕ × Row) → Row → Type 0
Shows [] row = ⊤
Shows (p ∷ ps) row = row ≡ p.1

-- a row of that table, or none
abbrev pub shown_row : Option ℕ → Row → List (ℕ × Row)
shown_row None row = []
shown_row (Some table) row = (table, row) ∷ []

-- What a RowFeed is seen as: whether a call ran out of memory, of which nothing else is said then;
-- its state; and the row that was closed last.
pub record RowState : Type 0 where
  pub failed : Bool
  pub at : Standing
  pub closed : Row
