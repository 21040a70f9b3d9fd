-- Outcomes of the parts of a call.
use Rattle.std.specs.Prelude.{ℕ, List, [], Option}
use Rattle.ports.specs.Files.{Files}
use Rattle.table_layout.specs.Layouts.{Layout}
use Rattle.commands.specs.Commands.{Command, Source, Task, task_of, further_files}
use Rattle.commands.specs.Gathering.{Gathered, ReadsAll, Compiles, InputsOf}
use Rattle.delivery.specs.Causes.{HasOutcome}
use Rattle.reports.specs.Outcomes.{Outcome}

-- the outcome of a task whose model has this layout and some of whose further files have these
-- texts: the rest of them is read, and all amounts to it
pub record OutcomeAfter (held : Option Files) (counted : List ℕ → Type 0) (t : Task) (l : Layout)
    (before : List (List ℕ)) (rest : List Source) (o : Outcome) : Type 0 where
  pub gathered : Gathered
  pub reads : ReadsAll held counted l before rest gathered
  pub amounts : HasOutcome t gathered o

-- the outcome of a task whose model has this layout
abbrev pub LayoutOutcome : Option Files → (List ℕ → Type 0) → Task → Layout → Outcome → Type 0
LayoutOutcome held counted t l o = OutcomeAfter held counted t l [] (further_files t) o

-- the outcome of a task whose model has this text
pub record ModelOutcome (held : Option Files) (counted : List ℕ → Type 0) (t : Task) (text : List ℕ)
    (o : Outcome) : Type 0 where
  pub gathered : Gathered
  pub compiles : Compiles held counted t text gathered
  pub amounts : HasOutcome t gathered o

-- the outcome of a command
pub record CommandOutcome (held : Option Files) (counted : List ℕ → Type 0) (c : Command)
    (o : Outcome) : Type 0 where
  pub gathered : Gathered
  pub gathers : InputsOf held counted c gathered
  pub amounts : HasOutcome (task_of c) gathered o
