-- What a call leaves: the file that it writes, and the output.
use Rattle.std.specs.Prelude.{◌≡◌, ◌≢◌, ℕ, List, take, Option, Some, None, ⊤, ◌⊎◌}
use Rattle.std.specs.FinMap as map
use Rattle.ports.specs.Files.{Files, Puts}
use Rattle.ports.specs.Output.{Adds, AddsPrefix}
use Rattle.delivery.specs.Deciding.{CallOutcome}
use Rattle.reports.specs.Outcomes.{Filing, Outcome, report_of}
use Rattle.reports.specs.declared.status.Status.{Status}
use Rattle.reports.specs.declared.status.Status.TheVariants.{WriteFault}

-- every file is as before, but that one may hold a front of the text in place of what it held
abbrev pub HoldsFront : Option Files → List ℕ → List ℕ → Option Files → Type 0
HoldsFront None name text new = ⊤
HoldsFront (Some files) name text new =
    (new ≡ Some files) ⊎ ((n : ℕ) × (new ≡ Some (map.insert files name (take n text))))

-- Where nothing is filed every file is as before; else only that file has changed, and it holds
-- what it held or a front of the text.
abbrev pub IsBegun : Option Filing → Option Files → Option Files → Type 0
IsBegun None old new = new ≡ old
IsBegun (Some f) old new = HoldsFront old f.name (f.text) new

-- Where nothing is filed every file is as before; else only that file has changed, and it holds the
-- text.
abbrev pub IsFiled : Option Filing → Option Files → Option Files → Type 0
IsFiled None old new = new ≡ old
IsFiled (Some f) old new = Puts old f.name (λ file. f.text) new

-- What a call does that does not run out of memory. `wrote`: a failed write of a file was counted.
-- `served o`: the files to be read can be read, and there is room for what the outcome o writes.
-- `stays`: no count of faults moved.
pub record HasEffects (held : Option Files) (counted : List ℕ → Type 0) (words : List (List ℕ))
    (status : Status) (new : Option Files) (wrote : Type 0) (before after : Option (List ℕ))
    (served : Outcome → Type 0) (stays : Type 0) : Type 0 where
  -- the words and the files have an outcome
  pub outcome : Outcome
  pub decided : CallOutcome held counted words outcome
  -- the answer is its status, unless a write failed
  pub answered : status ≢ WriteFault → status ≡ outcome.status
  -- the output gained the report, or after a failed write a front of it
  pub reported : status ≢ WriteFault → Adds before (report_of outcome) after
  pub begun : AddsPrefix before (report_of outcome) after
  -- the files, whatever the answer
  pub files : IsBegun outcome.filing held new
  -- the file is whole unless a write failed, also where none of a file was counted or the output
  -- gained a byte
  pub filed : (status ≢ WriteFault) ⊎ ((wrote → ⊥) ⊎ (after ≢ before))
      → IsFiled outcome.filing held new
  -- no count moved where the files can be read and there is room for what this outcome writes
  pub unmoved : served outcome → stays
