-- The transfer of a task, read from a file or made, as it is judged.
use Rattle.std.proofs.Common.{ℕ, List, Option, inr}
use Rattle.ports.specs.Files.{Files}
use Rattle.table_layout.specs.Layouts.{Layout}
use Rattle.commands.specs.Commands.{Task}
use Rattle.commands.specs.CommandViews.{transfer_of}
use Rattle.commands.specs.Gathering.{Gathered, Reads}
use Rattle.commands.specs.declared.files.File.TheVariants.{Transfer}
use Rattle.commands.specs.declared.files.FileRefusal.{FileRefusal}
use Rattle.commands.specs.declared.task.TransferSource.{TransferSource}
use Rattle.commands.specs.declared.task.TransferSource.TheVariants.{File, Grid}
use Rattle.reports.specs.FileRefusals.{IsNotRead}
use Rattle.reports.specs.Outcomes.{Outcome}
use Rattle.delivery.specs.Causes.{HasOutcome}
use Rattle.delivery.specs.Pieces.{IsJudgedFor, IsSourceJudgedFor}
use Rattle.delivery.specs.declared.judging.closing.Judged.{Judged}
use Rattle.delivery.specs.declared.judging.closing.Wanted.{Wanted}
use Rattle.delivery.specs.declared.transfers.TransferReading.TheVariants as reading
use Rattle.delivery.proofs.Steps as steps

module _ (w : Wanted) (held : Option Files) (counted : List ℕ → Type 0) (l : Layout) where
  -- a judged transfer has a text, which was read
  pub text_of : (s : TransferSource) (j : Judged)
      → IsSourceJudgedFor w held counted l (transfer_of s) (reading.Judged j)
      → (text : List ℕ) × IsJudgedFor w l text j
      × ((far : List ℕ → Type 0) (g : Gathered) (P : List ℕ → Type 0) → P text
      → Reads held far (transfer_of s) g P)
  text_of (File name) j h = (h.0, h.2, λ far g P p. inr (inr (h.0, h.1, p)))
  text_of (Grid n) j h = (_, h, λ far g P p. p)

  -- one that could not be read or is too long ends the call
  pub unread_ends : (s : TransferSource) (r : FileRefusal) (o : Outcome) (P : Gathered → List ℕ
      → Type 0)
      → IsSourceJudgedFor w held counted l (transfer_of s) (reading.Unread r)
      → IsNotRead Transfer r o
      → (g : Gathered) × Reads held counted (transfer_of s) g (P g)
      × ((t : Task) → HasOutcome t g o)
  unread_ends (File name) r o P h e =
      steps.unread_ends w held counted (counted name.now) name.now l r o P h (λ n. n) e
  unread_ends (Grid n) r o P h e = absurd h
