-- What a call answers and does, by its words and by what a file store and an output say before it
-- and after it.
use Rattle.std.specs.Prelude.{◌≡◌, ◌≢◌, ℕ, ◌≤◌, ◌⊎◌, List, Option, Some}
use Rattle.ports.specs.Faults.{CountsStay, NoReadFell, ReadRose, Rose}
use Rattle.ports.specs.Files.{Files}
use Rattle.reports.specs.Outcomes.{Outcome}
use Rattle.reports.specs.declared.status.Status.{Status}
use Rattle.reports.specs.declared.status.Status.TheVariants.{Accepted, Undecided, WriteFault}
use Rattle.reports.specs.declared.status.Status.TheVariants.{Memory}
use Rattle.delivery.specs.Answers.{HasCause, HasNoCountedFault, IsAnswer, IsComplete, IsStopped}
use Rattle.delivery.specs.Answers.{HoldsOfTexts}
use Rattle.delivery.specs.Causes.{HasStraightAreas, IsValidInput}
use Rattle.delivery.specs.Certified.{Certifies}
use Rattle.delivery.specs.Deciding.{CallOutcome}
use Rattle.delivery.specs.Effects.{HasEffects}
use Rattle.delivery.specs.Served.{AreBelowEnd, AreReadableFor, IsServed, IsServedFor}

-- what a file store and an output say of themselves: what they hold, which files can be read and
-- how much can be written without a fault, and the counts of faults
pub record Stores : Type 1 where
  pub held : Option Files
  pub readable : List ℕ → Type 0
  pub space : List ℕ → Option ℕ
  pub read_faults : List ℕ → ℕ
  pub write_faults : ℕ
  pub written : Option (List ℕ)
  pub output_space : Option ℕ
  pub output_faults : ℕ

-- the two, by all that they say
abbrev pub stores : Option Files → (List ℕ → Type 0) → (List ℕ → Option ℕ) → (List ℕ → ℕ) → ℕ
    → Option (List ℕ) → Option ℕ → ℕ → Stores
stores held readable space read_faults write_faults written output_space output_faults =
    record {
      held = held;
      readable = readable;
      space = space;
      read_faults = read_faults;
      write_faults = write_faults;
      written = written;
      output_space = output_space;
      output_faults = output_faults;
    }

-- a failed read of the file of that name was counted
abbrev pub ReadFailed : Stores → Stores → List ℕ → Type 0
ReadFailed old new = ReadRose old.read_faults new.read_faults

-- a failed write of a file was counted
abbrev pub WriteFailed : Stores → Stores → Type 0
WriteFailed old new = Rose old.write_faults new.write_faults

-- a failed write to the output was counted
abbrev pub PutFailed : Stores → Stores → Type 0
PutFailed old new = Rose old.output_faults new.output_faults

-- no count of faults moved
abbrev pub NoCountMoved : Stores → Stores → Type 0
NoCountMoved old new =
    CountsStay old.read_faults old.write_faults new.read_faults new.write_faults
    × (new.output_faults ≡ old.output_faults)

-- The files to be read can be read, there is room for whatever outcome the words and the files
-- have, and no count of faults is at its last value.
pub record AreServed (words : List (List ℕ)) (old : Stores) : Type 0 where
  pub served : IsServed old.held words old.readable old.space old.output_space
  pub below : AreBelowEnd old.read_faults old.write_faults old.output_faults

-- The call of these words answers with that status.
pub record IsCall (words : List (List ℕ)) (old new : Stores) (status : Status) : Type 0 where
  -- The cause of the answer: the main claim.
  pub cause : HasCause old.held (ReadFailed old new) words status
  -- Where all lines of AREAs are straights, nothing is left undecided.
  pub decided : (files : Files) → old.held ≡ Some files
      → HoldsOfTexts (Some files) (ReadFailed old new) words HasStraightAreas → status ≢ Undecided
  -- Valid input is accepted, unless a read or a write failed or the call ran out of memory.
  pub valid : (files : Files) → old.held ≡ Some files
      → HoldsOfTexts (Some files) (ReadFailed old new) words IsValidInput
      → (status ≡ Accepted) ⊎ IsStopped status
  -- After an accepted check or trial the file of the certificates holds a list that shows by
  -- itself that the areas are partitions without a cut; after an accepted polygons the third file
  -- holds the polygons of the areas, after an accepted canonical the canonical text of the
  -- transfer; and no other file has changed.
  pub certified : status ≡ Accepted
      → Certifies old.held (ReadFailed old new) words new.held
  -- The answer, the output and every file are those of an outcome of the words and the files; and
  -- where the files to be read can be read and there is room for what this outcome writes, no
  -- count of faults moves.
  pub effects : status ≢ Memory
      → HasEffects old.held (ReadFailed old new) words status new.held (WriteFailed old new)
      old.written new.written (IsServedFor words old.readable old.space old.output_space)
      (NoCountMoved old new)
  -- Whatever outcome the words and the files have, the answer and the report are those of an
  -- outcome that agrees with it, unless a read or a write failed or the call ran out of memory.
  pub exact : (files : Files) → old.held ≡ Some files → (outcome : Outcome)
      → CallOutcome (Some files) (ReadFailed old new) words outcome
      → IsAnswer outcome status old.written new.written
  -- A write fails only where a fault of it was counted.
  pub write : status ≡ WriteFault → WriteFailed old new ⊎ PutFailed old new
  -- Out of memory, nothing was written.
  pub memory : status ≡ Memory → (new.held ≡ old.held) × (new.written ≡ old.written)
  -- Out of memory, no count of faults moved either, where the files to be read can be read.
  pub counts : status ≡ Memory → AreReadableFor words old.readable → NoCountMoved old new
  -- Where no count of faults rose, the answer is that of an outcome, or out of memory.
  pub complete : HasNoCountedFault (ReadFailed old new) (WriteFailed old new) (PutFailed old new)
      → IsComplete old.held words status
  -- Where the files to be read can be read, there is room for whatever outcome the words and the
  -- files have, and no count of faults is at its last value, no count moves, so that the answer
  -- is that of an outcome, or out of memory.
  pub served : AreServed words old → NoCountMoved old new × IsComplete old.held words status
  -- Valid input is then accepted, or memory ran out.
  pub accepts : (files : Files) → old.held ≡ Some files
      → HoldsOfTexts (Some files) (λ name. ⊥) words IsValidInput → AreServed words old
      → (status ≡ Accepted) ⊎ (status ≡ Memory)
  -- No count falls.
  pub reads : NoReadFell old.read_faults new.read_faults
  pub writes : old.write_faults ≤ new.write_faults
  pub faults : old.output_faults ≤ new.output_faults
