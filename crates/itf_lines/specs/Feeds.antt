-- The lines of a text that comes in pieces.
use Rattle.std.specs.Prelude.{ℕ, ◌+◌, ◌≡◌, Bool, true, List, [], ◌∷◌, ◌++◌, length, if◌then◌else◌}
use Rattle.itf_lines.specs.declared.logical.LineEnd.{LineEnd}
use Rattle.itf_lines.specs.LogicalLines.{LogicalLine, LogicalLines}
use Rattle.itf_lines.specs.Fields.{physical_lines}
use Rattle.itf_lines.specs.PassStates.{PassState}
use Rattle.itf_lines.specs.Pass.{Step, pass}
use Rattle.itf_lines.specs.FeedStates.{FeedState, has_no_lf}

-- What these physical lines give where reading goes on after that many others.
abbrev pub lines_from_pass : ℕ → ℕ → PassState → List (List ℕ) → LogicalLines
lines_from_pass code ended state lines = record {
  lines = (pass code (ended + 1) state lines).lines;
  fault = (pass code (ended + 1) state lines).fault;
  total = ended + length lines;
}

-- The logical lines, the first fault and the number of physical lines that a text has where reading
-- goes on from a state with these bytes and they are its last.
abbrev pub lines_from_state : FeedState → List ℕ → LogicalLines
lines_from_state s bytes =
    lines_from_pass s.code s.ended s.state (physical_lines (s.begun ++ bytes))

-- some lines in front
abbrev pub with_lines : List LogicalLine → LogicalLines → LogicalLines
with_lines lines rest =
    record { lines = lines ++ rest.lines; fault = rest.fault; total = rest.total }

-- the line, where it is whole
abbrev pub line_if : Bool → LogicalLine → List LogicalLine
line_if whole line = if whole then line ∷ [] else []

-- the step gives that line, where it is whole, and leads there
abbrev pub Takes : Step → Bool → LogicalLine → PassState → Type 0
Takes step whole line state = (line_if whole line ≡ step.lines) × (state ≡ step.next)

-- a physical line leads from one state to another, and gives that line, where it is whole
abbrev pub TakesLine : FeedState → List ℕ → Bool → LogicalLine → FeedState → Type 0
TakesLine old text whole line new =
    (lines : List (List ℕ))
    → lines_from_pass old.code old.ended old.state (text ∷ lines)
    ≡ with_lines (line_if whole line) (lines_from_pass new.code new.ended new.state lines)

-- Some bytes lead from one state to another with the last of them left, and give these lines:
-- whatever follows.
abbrev pub Reads : FeedState → List ℕ → List LogicalLine → FeedState → List ℕ → Type 0
Reads old bytes lines new left =
    (z : List ℕ)
    → lines_from_state old (bytes ++ z) ≡ with_lines lines (lines_from_state new (left ++ z))

-- and the lines were added to those before
pub record Adds (before : List LogicalLine) (old : FeedState) (bytes : List ℕ)
    (now : List LogicalLine) (new : FeedState) (left : List ℕ) : Type 0 where
  pub added : List LogicalLine
  pub kept : now ≡ before ++ added
  pub reads : Reads old bytes added new left

-- the first of some lines
abbrev pub IsFront : List LogicalLine → List LogicalLine → Type 0
IsFront front lines = (more : List LogicalLine) × (lines ≡ front ++ more)

-- the first of the lines that some bytes give, whatever follows, were added
pub record AddsFront (before : List LogicalLine) (old : FeedState) (bytes : List ℕ)
    (now : List LogicalLine) : Type 0 where
  pub added : List LogicalLine
  pub kept : now ≡ before ++ added
  pub front : (z : List ℕ) → IsFront added (lines_from_state old (bytes ++ z)).lines

-- a text that ends in a state has these lines
abbrev pub Ends : FeedState → List LogicalLine → LineEnd → Type 0
Ends s lines end =
    lines_from_state s [] ≡ record { lines = lines; fault = end.fault; total = end.total }

pub record AddsEnd (before : List LogicalLine) (s : FeedState) (now : List LogicalLine)
    (end : LineEnd) : Type 0 where
  pub added : List LogicalLine
  pub kept : now ≡ before ++ added
  pub ends : Ends s added end

-- a LF is the last byte, and no other is one
pub record IsEnded (bytes : List ℕ) : Type 0 where
  pub front : List ℕ
  pub plain : has_no_lf front ≡ true
  pub ends : bytes ≡ front ++ 10 ∷ []
