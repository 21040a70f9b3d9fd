-- Findings and their order, without where they lie in memory.
use Rattle.std.specs.Prelude.{◌≡◌, ℕ, Bool, List, [], ◌∷◌, ◌++◌, map, if◌then◌else◌}
use Rattle.std.specs.Ordering.{nat_cmp, on, then_cmp, is_lt}
use Rattle.std.specs.declared.cmp.Ordering.{Ordering}
use Rattle.itf_reader.specs.declared.findings.Code.{Code}
use Rattle.itf_reader.specs.declared.findings.Code.TheVariants.{Count, Undefined, Number, Decimals}
use Rattle.itf_reader.specs.declared.findings.Code.TheVariants.{Range, Text, Date, Enum, Coord}
use Rattle.itf_reader.specs.declared.findings.Code.TheVariants.{Arcs, Arc, Short, Tid, Ident}
use Rattle.itf_reader.specs.declared.findings.Code.TheVariants.{Reference}
use Rattle.itf_reader.specs.declared.findings.Fault.{Fault}
use Rattle.itf_reader.specs.declared.findings.Fault.TheVariants as faults
use Rattle.itf_reader.specs.declared.findings.Finding.{Finding as CodeFinding}

-- what a finding names besides its place
pub data Other : Type 0 where
  Nothing : Other
  Line : ℕ → Other
  Word : List ℕ → Other

-- a fault of values or keys: its line of the transfer, its column, its code, and what else it names
pub record Finding : Type 0 where
  pub line : ℕ
  pub column : ℕ
  pub code : Code
  pub other : Other

-- the codes in the order of the report
abbrev pub rank : Code → ℕ
rank Count = 0
rank Undefined = 1
rank Number = 2
rank Decimals = 3
rank Range = 4
rank Text = 5
rank Date = 6
rank Enum = 7
rank Coord = 8
rank Arcs = 9
rank Arc = 10
rank Short = 11
rank Tid = 12
rank Ident = 13
rank Reference = 14

-- the order of findings: by the line, on one line by the column, in one column by the code
abbrev pub finding_cmp : Finding → Finding → Ordering
finding_cmp =
    then_cmp (on (λ f. f.line) nat_cmp)
    (then_cmp (on (λ f. f.column) nat_cmp) (on (λ f. rank f.code) nat_cmp))

-- f stands before g in the report
abbrev pub is_before : Finding → Finding → Bool
is_before f g = is_lt (finding_cmp f g)

-- an element before the first that does not come before it
abbrev pub put_in : {X : Type 0} → (X → X → Bool) → X → List X → List X
put_in lt x [] = x ∷ []
put_in lt x (y ∷ ys) = if lt y x then y ∷ put_in lt x ys else x ∷ y ∷ ys

-- elements in order; those that tie keep theirs
abbrev pub sorted : {X : Type 0} → (X → X → Bool) → List X → List X
sorted lt [] = []
sorted lt (x ∷ xs) = put_in lt x (sorted lt xs)

-- findings in the order of the report; those at one place with one code keep theirs
abbrev pub in_order : List Finding → List Finding
in_order = sorted is_before

-- ---- the findings of the code
abbrev pub code_in : Fault → Code
code_in (faults.Value code) = code
code_in (faults.Repeat code l) = code
code_in (faults.Reference code w) = code

abbrev pub other_of : Fault → Other
other_of (faults.Value code) = Nothing
other_of (faults.Repeat code l) = Line l
other_of (faults.Reference code w) = Word w

abbrev pub finding_of : CodeFinding → Finding
finding_of f =
    record {
      line = f.line;
      column = f.column;
      code = code_in f.fault;
      other = other_of f.fault;
    }

abbrev pub findings_of : List CodeFinding → List Finding
findings_of fs = map finding_of fs

-- further findings were added to those before
abbrev pub AddsFindings : List CodeFinding → List CodeFinding → List Finding → Type 0
AddsFindings old new more = findings_of new ≡ findings_of old ++ more
