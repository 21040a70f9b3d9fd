-- Which outcome the words and the files have.
use Rattle.std.specs.Prelude.{◌≡◌, ℕ, List, Option}
use Rattle.ports.specs.Files.{Files}
use Rattle.commands.specs.Commands.{Command, IsCommand, IsUsage, task_of}
use Rattle.commands.specs.Gathering.{Gathered, InputsOf}
use Rattle.delivery.specs.Causes.{HasOutcome}
use Rattle.reports.specs.Outcomes.{Outcome, usage}

-- The words are no command; or this is read of the files of the command, and amounts to the
-- outcome.
-- `held` are the files, where the shelf says what it holds; `counted name`: a failed read of that
-- file was counted.
pub data CallOutcome (held : Option Files) (counted : List ℕ → Type 0) (words : List (List ℕ))
    (o : Outcome) : Type 0 where
  without_command : IsUsage words → o ≡ usage → CallOutcome held counted words o
  with_command : (c : Command) (g : Gathered) → IsCommand words c → InputsOf held counted c g
      → HasOutcome (task_of c) g o → CallOutcome held counted words o
