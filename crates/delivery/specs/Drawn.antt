-- A model and a transfer whose areas are drawn, and nothing searched.
use Rattle.std.specs.Prelude.{◌≡◌, ⊤, ℕ, List, Option, None}
use Rattle.ports.specs.Files.{Files}
use Rattle.commands.specs.Commands.{FileNames, Target, Task, from_file, judges, on_files}
use Rattle.commands.specs.ModelTexts.{HasLayout}
use Rattle.commands.specs.Reading.{IsWhole}
use Rattle.commands.specs.declared.command.Verb.TheVariants.{Check}
use Rattle.commands.specs.declared.files.File.TheVariants.{Transfer}
use Rattle.reports.specs.OutcomeViews.{outcome_of}
use Rattle.reports.specs.Outcomes.{Outcome}
use Rattle.reports.specs.declared.status.Status.{Status}
use Rattle.reports.specs.declared.status.Status.TheVariants as status
use Rattle.table_layout.specs.Layouts.{Layout}
use Rattle.table_layout.specs.Valid.{IsValid}
use Rattle.table_layout.specs.Values.{layout_view}
use Rattle.delivery.specs.Ending.{LayoutOutcome, CommandOutcome, ModelOutcome}
use Rattle.delivery.specs.Judging.{IsJudgedBy}
use Rattle.delivery.specs.Pieces.{IsJudged}
use Rattle.delivery.specs.declared.drawn.CleanDelivery.{CleanDelivery}
use Rattle.delivery.specs.declared.drawn.Delivered.{Delivered}
use Rattle.delivery.specs.declared.drawn.Delivered.TheVariants.{Clean, Ended}
use Rattle.delivery.specs.declared.judging.closing.Judged.TheVariants as judged

-- the status of an outcome that ends a check before any area is searched
abbrev pub IsEarlyStatus : Status → Type 0
IsEarlyStatus status.Rejected = ⊤
IsEarlyStatus status.ModelRefused = ⊤
IsEarlyStatus status.ReadFault = ⊤
IsEarlyStatus status.OverLimit = ⊤
IsEarlyStatus other = ⊥

-- the outcome ends a check before any area is searched: it has such a status, and files nothing
pub record IsEarly (o : Outcome) : Type 0 where
  pub unfiled : o.filing ≡ None
  pub early : IsEarlyStatus o.status

-- a transfer of that text is clean, by that layout
pub record IsCleanOf (l : Layout) (text : List ℕ) (c : CleanDelivery) : Type 0 where
  pub layout : layout_view c.layout ≡ l
  pub judged : IsJudged l text (judged.Clean c.objects c.drawings c.surfaces)

-- the text of a transfer is clean, or has an outcome in which its areas have no part
abbrev pub IsCleanText : Layout → List ℕ → Delivered → Type 0
IsCleanText l text (Clean c) = IsCleanOf l text c
IsCleanText l text (Ended o) =
    IsJudgedBy l text (λ rows p. ⊥) (outcome_of o) × IsEarly (outcome_of o)

-- the text of the transfer has that outcome, in which its areas have no part
abbrev pub IsOfText : Option Files → Layout → List ℕ → Outcome → Type 0
IsOfText held l transfer o =
    (text : List ℕ) × IsWhole held transfer 268435456 text × IsJudgedBy l text (λ rows p. ⊥) o

-- so it is of the layout of a model with that text
abbrev pub IsOfModel : Option Files → List ℕ → List ℕ → Outcome → Type 0
IsOfModel held model_text transfer o =
    (l : Layout) × HasLayout model_text l × IsOfText held l transfer o

-- so it is of the model of that name
abbrev pub IsOfFiles : Option Files → List ℕ → List ℕ → Outcome → Type 0
IsOfFiles held model transfer o =
    (text : List ℕ) × IsWhole held model 4194304 text × IsOfModel held text transfer o

-- a check of that transfer, whose certificates go to that target
abbrev pub checks : List ℕ → Target → Task
checks transfer target = judges (from_file Transfer transfer) target

-- The file of a transfer is clean by that layout, or a check ends before any area is searched. If
-- it rejects the transfer, it does so by its text alone.
abbrev pub IsDrawnFile : Option Files → (List ℕ → Type 0) → Layout → List ℕ → Delivered → Type 0
IsDrawnFile held counted l transfer (Clean c) =
    (text : List ℕ) × IsWhole held transfer 268435456 text × IsCleanOf l text c
IsDrawnFile held counted l transfer (Ended o) =
    ((target : Target) → LayoutOutcome held counted (checks transfer target) l (outcome_of o))
    × IsEarly (outcome_of o)
    × (o.status ≡ status.Rejected → IsOfText held l transfer (outcome_of o))

-- the files of a model and a transfer, where the model has that text and the transfer is clean
pub record IsCleanBy (held : Option Files) (model_text transfer : List ℕ)
    (c : CleanDelivery) : Type 0 where
  pub laid : HasLayout model_text (layout_view c.layout)
  pub valid : IsValid (layout_view c.layout)
  pub text : List ℕ
  pub whole : IsWhole held transfer 268435456 text
  pub clean : IsCleanOf (layout_view c.layout) text c

-- the text of a model and the file of a transfer come to that
abbrev pub IsDrawnModel : Option Files → (List ℕ → Type 0) → List ℕ → List ℕ → Delivered → Type 0
IsDrawnModel held counted text transfer (Clean c) = IsCleanBy held text transfer c
IsDrawnModel held counted text transfer (Ended o) =
    ((target : Target) → ModelOutcome held counted (checks transfer target) text (outcome_of o))
    × IsEarly (outcome_of o)
    × (o.status ≡ status.Rejected → IsOfModel held text transfer (outcome_of o))

-- the files of a model and a transfer that is clean
pub record IsCleanDelivery (held : Option Files) (model transfer : List ℕ)
    (c : CleanDelivery) : Type 0 where
  pub text : List ℕ
  pub whole : IsWhole held model 4194304 text
  pub by : IsCleanBy held text transfer c

-- the names of the three files of a check
abbrev pub names : List ℕ → List ℕ → List ℕ → FileNames
names model transfer third = record { model = model; transfer = transfer; third = third }

-- What the files of a model and of a transfer come to: a clean transfer, or the outcome of a check
-- of them, wherever its certificates go. If that rejects the transfer, it is by its text alone.
abbrev pub IsDelivered : Option Files → (List ℕ → Type 0) → List ℕ → List ℕ → Delivered → Type 0
IsDelivered held counted model transfer (Clean c) = IsCleanDelivery held model transfer c
IsDelivered held counted model transfer (Ended o) =
    ((third : List ℕ)
    → CommandOutcome held counted (on_files Check (names model transfer third)) (outcome_of o))
    × IsEarly (outcome_of o)
    × (o.status ≡ status.Rejected → IsOfFiles held model transfer (outcome_of o))

-- both files can be read
pub record AreReadable (readable : List ℕ → Type 0) (m t : List ℕ) : Type 0 where
  pub model : readable m
  pub transfer : readable t
