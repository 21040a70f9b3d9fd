-- Files that can be read, and room for what is written: no read and no write of a call fails.
use Rattle.std.specs.Prelude.{ℕ, ◌-◌, ◌^◌, ◌<◌, List, [], ◌∷◌, length, Option, Some, None, ⊤}
use Rattle.ports.specs.Files.{Files}
use Rattle.ports.specs.Rooms.{HasRoom}
use Rattle.commands.specs.Commands.{Command, IsCommand, Source, from_file, made, model_of}
use Rattle.commands.specs.Commands.{task_of, further_files}
use Rattle.delivery.specs.Deciding.{CallOutcome}
use Rattle.reports.specs.Outcomes.{Filing, Outcome, report_of}

-- a read of the text is not to fail; one that is made needs no read
abbrev pub IsReadable : (List ℕ → Type 0) → Source → Type 0
IsReadable readable (from_file f name) = readable name
IsReadable readable (made text) = ⊤

-- no read of the texts is to fail
abbrev pub AreReadable : (List ℕ → Type 0) → List Source → Type 0
AreReadable readable [] = ⊤
AreReadable readable (s ∷ ss) = IsReadable readable s × AreReadable readable ss

-- the files of a command
abbrev pub HasReadableFiles : (List ℕ → Type 0) → Command → Type 0
HasReadableFiles readable c =
    IsReadable readable (model_of c) × AreReadable readable (further_files (task_of c))

-- there is space for the text that is filed, where there is one, under its name
abbrev pub HasFilingSpace : (List ℕ → Option ℕ) → Option Filing → Type 0
HasFilingSpace space None = ⊤
HasFilingSpace space (Some f) = HasRoom (length (f.text)) (space f.name)

-- the files that the words name to be read can be read
abbrev pub AreReadableFor : List (List ℕ) → (List ℕ → Type 0) → Type 0
AreReadableFor words readable = (c : Command) → IsCommand words c → HasReadableFiles readable c

-- The files to be read can be read, and there is space for what this outcome files and, in the
-- output, for its report.
pub record IsServedFor (words : List (List ℕ)) (readable : List ℕ → Type 0)
    (space : List ℕ → Option ℕ) (output : Option ℕ) (o : Outcome) : Type 0 where
  pub files : AreReadableFor words readable
  pub filing : HasFilingSpace space o.filing
  pub report : HasRoom (length (report_of o)) output

-- The files to be read can be read, and for every outcome of the words and the files there is space
-- for what it files and, in the output, for its report.
pub record IsServed (held : Option Files) (words : List (List ℕ)) (readable : List ℕ → Type 0)
    (space : List ℕ → Option ℕ) (output : Option ℕ) : Type 0 where
  pub files : AreReadableFor words readable
  pub filing : (o : Outcome) → CallOutcome held (λ name. ⊥) words o
      → HasFilingSpace space o.filing
  pub report : (o : Outcome) → CallOutcome held (λ name. ⊥) words o
      → HasRoom (length (report_of o)) output

-- no count of faults is at its last value
pub record AreBelowEnd (reads : List ℕ → ℕ) (writes faults : ℕ) : Type 0 where
  pub read : (name : List ℕ) → reads name < 2 ^ 64 - 1
  pub write : writes < 2 ^ 64 - 1
  pub put : faults < 2 ^ 64 - 1
