-- What is read of the files of a command: their texts, or what the call ends with before.
use Rattle.std.specs.Prelude.{◌≡◌, ℕ, List, [], ◌∷◌, ◌++◌, Option, ◌⊎◌}
use Rattle.ports.specs.Files.{Files}
use Rattle.table_layout.specs.Layouts.{Layout}
use Rattle.commands.specs.Commands.{Command, Source, from_file, made, limit_of, model_of}
use Rattle.commands.specs.Commands.{Task, task_of, further_files}
use Rattle.commands.specs.ModelTexts.{Refusal, IsRefused, HasLayout}
use Rattle.commands.specs.Reading.{IsWhole, IsLonger}
use Rattle.commands.specs.declared.files.File.{File}

-- what is read for a command: a file that could not be read or is too long, a refused model, or the
-- layout and the further texts
pub data Gathered : Type 0 where
  -- this file could not be read
  unread : File → Gathered
  -- this file is longer than its limit
  too_long : File → Gathered
  -- the model is refused
  refused : Refusal → Gathered
  -- the layout of the model, and the texts of the further files in order
  texts : Layout → List (List ℕ) → Gathered

-- a file is read: it could not be, with a fault of it counted; or it is too long; or its text goes
-- on. A text that is made goes on.
abbrev pub Reads : Option Files → (List ℕ → Type 0) → Source → Gathered → (List ℕ → Type 0) → Type 0
Reads held counted (from_file f name) g goes_on =
    (counted name × (g ≡ unread f))
    ⊎ ((IsLonger held name (limit_of f) × (g ≡ too_long f))
    ⊎ ((text : List ℕ) × IsWhole held name (limit_of f) text × goes_on text))
Reads held counted (made text) g goes_on = goes_on text

-- files are read in order, after those whose texts these are
abbrev pub ReadsAll : Option Files → (List ℕ → Type 0) → Layout → List (List ℕ) → List Source
    → Gathered → Type 0
ReadsAll held counted l before [] g = g ≡ texts l before
ReadsAll held counted l before (s ∷ ss) g =
    Reads held counted s g (λ text. ReadsAll held counted l (before ++ (text ∷ [])) ss g)

-- a model's text is refused, or has a layout, and then the further files of the task are read
abbrev pub Compiles : Option Files → (List ℕ → Type 0) → Task → List ℕ → Gathered → Type 0
Compiles held counted t text g =
    ((r : Refusal) × IsRefused text r × (g ≡ refused r))
    ⊎ ((l : Layout) × HasLayout text l × ReadsAll held counted l [] (further_files t) g)

-- this is read of the files of a command
abbrev pub InputsOf : Option Files → (List ℕ → Type 0) → Command → Gathered → Type 0
InputsOf held counted c g =
    Reads held counted (model_of c) g (λ text. Compiles held counted (task_of c) text g)
