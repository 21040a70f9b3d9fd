-- One step of a call after another.
use Rattle.std.proofs.Common.{ℕ, ◌≤◌, List, [], ◌∷◌, ◌++◌, Option, Err, refl, arith, inl, inr}
use Rattle.std.specs.Prelude.{IsErrOf}
use Rattle.ports.specs.Faults.{Rose}
use Rattle.ports.specs.Files.{Files}
use Rattle.itf_reader.specs.Forms.{Row}
use Rattle.table_layout.specs.Layouts.{Layout}
use Rattle.commands.specs.Commands.{Command, Task, task_of, Source, from_file, made, limit_of}
use Rattle.commands.specs.Commands.{model_of, further_files}
use Rattle.delivery.specs.Deciding.{CallOutcome, without_command, with_command}
use Rattle.delivery.specs.Answers.{HoldsOfTexts}
use Rattle.delivery.specs.Ending.{OutcomeAfter, ModelOutcome}
use Rattle.commands.specs.Gathering as gathering
use Rattle.commands.specs.Gathering.{Gathered, Reads, ReadsAll, Compiles, InputsOf}
use Rattle.delivery.specs.Causes.{HasOutcome}
use Rattle.delivery.specs.Judging.{IsJudgedBy, at_fault, faulty, oversized, sound}
use Rattle.reports.specs.Outcomes.{Outcome}
use Rattle.commands.specs.Reading.{IsLonger}
use Rattle.reports.specs.FileRefusals.{IsNotRead}
use Rattle.commands.specs.declared.files.File.{File}
use Rattle.delivery.specs.Pieces.{AreFileRows, IsJudged, IsJudgedFor, IsTransferFor, Keeps}
use Rattle.delivery.specs.declared.judging.closing.Judged.{Judged}
use Rattle.delivery.specs.declared.judging.closing.Judged.TheVariants as judged
use Rattle.delivery.specs.declared.judging.closing.Wanted.{Wanted}
use Rattle.delivery.specs.declared.judging.closing.Wanted.TheVariants as wanted
use Rattle.delivery.specs.declared.transfers.RowsReading.TheVariants as rows_reading
use Rattle.commands.specs.declared.files.File.TheVariants.{Transfer}
use Rattle.delivery.specs.declared.transfers.TransferReading.TheVariants as reading
use Rattle.commands.specs.declared.files.FileRefusal.{FileRefusal}
use Rattle.commands.specs.declared.files.FileRefusal.TheVariants.{Failed, TooLong, Memory}

-- counts that rise in one part of a call rise in the whole of it
pub rose_after : (a b c : ℕ) → a ≤ b → Rose b c → Rose a c
rose_after a b c h k = omega arith

pub rose_before : (a b c : ℕ) → b ≤ c → Rose a b → Rose a c
rose_before a b c h k = omega arith

-- what is read is read still where more counts have risen
module _ (held : Option Files) (near far : List ℕ → Type 0) (counted : (name : List ℕ) → near name
    → far name) where
  reads_on : (s : Source) (g : Gathered) (P Q : List ℕ → Type 0)
      → ((text : List ℕ) → P text → Q text) → Reads held near s g P → Reads held far s g Q
  reads_on (made text) g P Q f h = f text h
  reads_on (from_file n name) g P Q f h = elim h as (λ z. Reads held far (from_file n name) g Q) [
    | inl k ↦ inl (counted name k.0, k.1)
    | inr k ↦ elim k as (λ z. Reads held far (from_file n name) g Q) [
      | inl l ↦ inr (inl l)
      | inr t ↦ inr (inr (t.0, t.1, f t.0 t.2))
    ]
  ]

  all_on : (l : Layout) (before : List (List ℕ)) (ss : List Source) (g : Gathered)
      → ReadsAll held near l before ss g → ReadsAll held far l before ss g
  all_on l before [] g h = h
  all_on l before (s ∷ ss) g h =
      reads_on s g (λ text. ReadsAll held near l (before ++ (text ∷ [])) ss g)
      (λ text. ReadsAll held far l (before ++ (text ∷ [])) ss g)
      (λ text k. all_on l (before ++ (text ∷ [])) ss g k) h

  compiles_on : (t : Task) (text : List ℕ) (g : Gathered) → Compiles held near t text g
      → Compiles held far t text g
  compiles_on t text g h = elim h as (λ z. Compiles held far t text g) [
    | inl k ↦ inl k
    | inr k ↦ inr (k.0, k.1, all_on k.0 [] (further_files t) g k.2)
  ]

  gathers_on : (c : Command) (g : Gathered) → InputsOf held near c g → InputsOf held far c g
  gathers_on c g h =
      reads_on (model_of c) g (λ text. Compiles held near (task_of c) text g)
      (λ text. Compiles held far (task_of c) text g) (λ text k. compiles_on (task_of c) text g k) h

  pub passes_on : (words : List (List ℕ)) (test : Task → Layout → List (List ℕ) → Type 0)
      → HoldsOfTexts held near words test → HoldsOfTexts held far words test
  passes_on words test (c, l, ts, i, g, h) = (c, l, ts, i, gathers_on c (gathering.texts l ts) g, h)

  pub ends_on : (t : Task) (l : Layout) (before : List (List ℕ)) (rest : List Source) (o : Outcome)
      → OutcomeAfter held near t l before rest o → OutcomeAfter held far t l before rest o
  ends_on t l before rest o h = record {
    gathered = h.gathered;
    reads = all_on l before rest h.gathered h.reads;
    amounts = h.amounts;
  }

  pub model_on : (t : Task) (text : List ℕ) (o : Outcome) → ModelOutcome held near t text o
      → ModelOutcome held far t text o
  model_on t text o h = record {
    gathered = h.gathered;
    compiles = compiles_on t text h.gathered h.compiles;
    amounts = h.amounts;
  }

  pub decides_on : (words : List (List ℕ)) (o : Outcome) → CallOutcome held near words o
      → CallOutcome held far words o
  decides_on words o (without_command u e) = without_command u e
  decides_on words o (with_command c g i h a) = with_command c g i (gathers_on c g h) a

-- a file that was not read ends the call
pub not_read_ends : (T : Type 0) (held : Option Files) (counted : List ℕ → Type 0) (f : File)
    (name : List ℕ) (r : FileRefusal) (o : Outcome) (P : Gathered → List ℕ → Type 0)
    → (IsErrOf {T = T} (Err r) Failed → counted name)
    → (IsErrOf {T = T} (Err r) TooLong → IsLonger held name (limit_of f)) → IsNotRead f r o
    → (g : Gathered) × Reads held counted (from_file f name) g (P g)
    × ((t : Task) → HasOutcome t g o)
not_read_ends T held counted f name Failed o P a b e =
    (gathering.unread f, inl (a refl, refl), λ t. e)
not_read_ends T held counted f name TooLong o P a b e =
    (gathering.too_long f, inr (inl (b refl, refl)), λ t. e)
not_read_ends T held counted f name Memory o P a b e = absurd e

-- and the transfer's, which is judged while it is read
pub unread_ends : (w : Wanted) (held : Option Files) (counted : List ℕ → Type 0) (rose : Type 0)
    (name : List ℕ) (l : Layout) (r : FileRefusal) (o : Outcome) (P : Gathered → List ℕ → Type 0)
    → IsTransferFor w held name l rose (reading.Unread r) → (rose → counted name)
    → IsNotRead Transfer r o
    → (g : Gathered) × Reads held counted (from_file Transfer name) g (P g)
    × ((t : Task) → HasOutcome t g o)
unread_ends w held counted rose name l Failed o P h f e =
    (gathering.unread Transfer, inl (f h, refl), λ t. e)
unread_ends w held counted rose name l TooLong o P h f e =
    (gathering.too_long Transfer, inr (inl (h, refl)), λ t. e)
unread_ends w held counted rose name l Memory o P h f e = absurd e

-- an outcome that its areas have no part in is one whatever is said of them
pub ended_for : (l : Layout) (text : List ℕ) (Areas : List (List Row) → Outcome → Type 0)
    (o : Outcome)
    → IsJudgedBy l text (λ rows p. ⊥) o → IsJudgedBy l text Areas o
ended_for l text Areas o (at_fault n code h e) = at_fault n code h e
ended_for l text Areas o (faulty rows t n e) = faulty rows t n e
ended_for l text Areas o (oversized rows t k b e) = oversized rows t k b e
ended_for l text Areas o (sound h) = absurd h.4

-- what a text comes to is that also where less is wanted
pub judged_for : (w : Wanted) (l : Layout) (text : List ℕ) (j : Judged) → IsJudged l text j
    → IsJudgedFor w l text j
judged_for wanted.Everything l text j h = h
judged_for wanted.AreasAlone l text (judged.Malformed line code) h = h
judged_for wanted.AreasAlone l text (judged.Faulty found) h = h
judged_for wanted.AreasAlone l text judged.Oversized h = h
judged_for wanted.AreasAlone l text (judged.Clean count drawings answers) h =
    (h.0, h.1, h.2, h.3, h.4, h.5, h.6, tt)

-- the rows of a file that was not read are a transfer that was not read
pub rows_unread : (w : Wanted) (K : Type 0) (Has : Keeps K) (held : Option Files)
    (name : List ℕ) (l : Layout) (rose : Type 0) (r : FileRefusal)
    → AreFileRows Has held name l rose (rows_reading.Unread r)
    → IsTransferFor w held name l rose (reading.Unread r)
rows_unread w K Has held name l rose Failed h = h
rows_unread w K Has held name l rose TooLong h = h
rows_unread w K Has held name l rose Memory h = absurd h
