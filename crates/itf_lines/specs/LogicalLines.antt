-- The logical lines of a transfer text.
use Rattle.std.specs.Prelude.{ℕ, ◌+◌, Bool, false, cond, List, [], ◌∷◌, ◌++◌, length, Option, Some}
use Rattle.std.specs.Prelude.{None, codes, if◌then◌else◌, is_some}
use Rattle.std.specs.List.{flat_map}
use Rattle.itf_lines.specs.declared.word.LineWord.{LineWord}
use Rattle.itf_lines.specs.declared.word.LineWord.TheVariants.{Slashes}
use Rattle.itf_lines.specs.declared.logical.LineFault.{LineFault}
use Rattle.itf_lines.specs.declared.logical.LineFault.TheVariants.{OpenContinue, StrayCont}
use Rattle.itf_lines.specs.Words.{same, word_in}
use Rattle.itf_lines.specs.Fields.{physical_lines, fields, trim_end, ends_in, without_last}

-- a logical line: the number of its first physical line, its word, and its fields after the first
pub record LogicalLine : Type 0 where
  pub number : ℕ
  pub word : LineWord
  pub fields : List (List ℕ)

-- the logical lines of a text up to the first fault of continuation, that fault, and the number of
-- physical lines
pub record LogicalLines : Type 0 where
  pub lines : List LogicalLine
  pub fault : Option LineFault
  pub total : ℕ

-- the fields after the first
abbrev pub without_first : List (List ℕ) → List (List ℕ)
without_first [] = []
without_first (field ∷ fields) = fields

-- The head of a text.

-- four slashes, blanks and tabs at the end dropped
abbrev pub is_slashes : List ℕ → Bool
is_slashes line = same (trim_end line) (codes "////")

-- the physical lines up to and with the first line of four slashes; all where there is none
abbrev pub head : List (List ℕ) → List (List ℕ)
head [] = []
head (line ∷ lines) = cond (is_slashes line) (line ∷ []) (line ∷ head lines)

-- the physical lines after the first line of four slashes
abbrev pub body : List (List ℕ) → List (List ℕ)
body [] = []
body (line ∷ lines) = cond (is_slashes line) lines (body lines)

-- a line of the head is a logical line, whatever it holds
abbrev pub head_line : ℕ → List ℕ → LogicalLine
head_line number line =
    record {
      number = number;
      word = if is_slashes line then Slashes else word_in (fields line);
      fields = without_first (fields line);
    }

-- the lines of the head, the first of which has that number
abbrev pub head_lines : ℕ → List (List ℕ) → List LogicalLine
head_lines number [] = []
head_lines number (line ∷ lines) = head_line number line ∷ head_lines (number + 1) lines

-- What follows the head.

-- a physical line: its number, its fields without the continue code, and whether it goes on
pub record Piece : Type 0 where
  pub number : ℕ
  pub fields : List (List ℕ)
  pub goes_on : Bool

-- a line goes on where its last byte is the continue code, blanks and tabs at its end dropped
abbrev pub goes_on : ℕ → List ℕ → Bool
goes_on code line = ends_in code (trim_end line)

-- the line without the code by which it goes on
abbrev pub without_code : ℕ → List ℕ → List ℕ
without_code code line = if goes_on code line then without_last (trim_end line) else line

-- a physical line as part of a logical one: its number, its fields, and whether the next line goes
-- on with it
abbrev pub piece : ℕ → ℕ → List ℕ → Piece
piece code number line =
    record {
      number = number;
      fields = fields (without_code code line);
      goes_on = goes_on code line;
    }

-- the physical lines, the first of which has that number
abbrev pub pieces : ℕ → ℕ → List (List ℕ) → List Piece
pieces code number [] = []
pieces code number (line ∷ lines) = piece code number line ∷ pieces code (number + 1) lines

-- the first field is CONT
abbrev pub is_cont : List (List ℕ) → Bool
is_cont [] = false
is_cont (field ∷ fields) = same field (codes "CONT")

-- a piece joins the first of the groups
abbrev pub join : Piece → List (List Piece) → List (List Piece)
join p [] = (p ∷ []) ∷ []
join p (group ∷ groups) = (p ∷ group) ∷ groups

-- each piece that goes on is in one group with the next piece, whatever that is
abbrev pub groups : List Piece → List (List Piece)
groups [] = []
groups (p ∷ ps) = if p.goes_on then join p (groups ps) else (p ∷ []) ∷ groups ps

-- the first place of a group at which a piece goes on and no CONT follows
abbrev pub fault_after : Piece → List Piece → Option LineFault
fault_after p [] = if p.goes_on then Some (OpenContinue p.number) else None
fault_after p (q ∷ ps) = if is_cont q.fields then fault_after q ps else Some (OpenContinue p.number)

-- the first fault of a group: it begins with CONT, or a piece goes on and no CONT follows
abbrev pub fault_of : List Piece → Option LineFault
fault_of [] = None
fault_of (p ∷ ps) = if is_cont p.fields then Some (StrayCont p.number) else fault_after p ps

-- the fault of the first group that has one
abbrev pub first_fault : List (List Piece) → Option LineFault
first_fault [] = None
first_fault (group ∷ groups) =
    if is_some (fault_of group) then fault_of group else first_fault groups

-- the groups before the first with a fault
abbrev pub sound_groups : List (List Piece) → List (List Piece)
sound_groups [] = []
sound_groups (group ∷ groups) = if is_some (fault_of group) then [] else group ∷ sound_groups groups

-- the fields of a group: those of its first piece, then those of the others, each without its CONT
abbrev pub fields_of : List Piece → List (List ℕ)
fields_of [] = []
fields_of (p ∷ ps) = p.fields ++ flat_map (λ q. without_first q.fields) ps

-- a line of that number with these fields; none where there is no field
abbrev pub line_with : ℕ → List (List ℕ) → List LogicalLine
line_with number [] = []
line_with number (field ∷ fields) =
    record { number = number; word = word_in (field ∷ fields); fields = fields } ∷ []

-- the logical line of a group; none where it has no field
abbrev pub line_of : List Piece → List LogicalLine
line_of [] = []
line_of (p ∷ ps) = line_with p.number (fields_of (p ∷ ps))

-- The whole text.

-- the groups after the head of these physical lines
abbrev pub body_groups : ℕ → List (List ℕ) → List (List Piece)
body_groups code lines = groups (pieces code (1 + length (head lines)) (body lines))

-- the logical lines of these physical lines, up to the first fault
abbrev pub logical_of : ℕ → List (List ℕ) → LogicalLines
logical_of code lines = record {
  lines = head_lines 1 (head lines) ++ flat_map line_of (sound_groups (body_groups code lines));
  fault = first_fault (body_groups code lines);
  total = length lines;
}

-- the logical lines of a text, by the continue code of its model
abbrev pub logical : ℕ → List ℕ → LogicalLines
logical code text = logical_of code (physical_lines text)
