-- Checks that end before any area is searched.
use Rattle.std.proofs.Common.{◌≡◌, ℕ, List, [], ◌∷◌, ◌++◌, Option, Err, refl, sym, ap, ◌∙◌, subst}
use Rattle.std.proofs.Common.{inl, inr}
use Rattle.std.specs.Prelude.{IsErrOf}
use Rattle.ports.specs.Files.{Files}
use Rattle.table_layout.specs.Layouts.{Layout}
use Rattle.table_layout.specs.Valid.{IsValid}
use Rattle.commands.specs.Commands.{Target, check_target, on_files}
use Rattle.commands.specs.Gathering as gathering
use Rattle.commands.specs.Gathering.{Compiles, ReadsAll, texts}
use Rattle.commands.specs.ModelTexts.{HasLayout, IsRefused, Refusal}
use Rattle.commands.specs.Reading.{IsLonger, IsWhole}
use Rattle.commands.specs.declared.command.Verb.TheVariants.{Check}
use Rattle.commands.specs.declared.files.File.{File}
use Rattle.commands.specs.declared.files.File.TheVariants.{Model, Transfer}
use Rattle.commands.specs.declared.files.FileRefusal.{FileRefusal}
use Rattle.commands.specs.declared.files.FileRefusal.TheVariants.{Failed, TooLong, Memory}
use Rattle.reports.specs.FileRefusals.{IsNotRead}
use Rattle.reports.specs.OutcomeViews.{outcome_of}
use Rattle.reports.specs.Outcomes.{Outcome, refused}
use Rattle.reports.specs.declared.status.Status.{Status}
use Rattle.reports.specs.declared.status.Status.TheVariants as status
use Rattle.delivery.specs.Drawn.{IsCleanText, IsDelivered, IsDrawnFile, IsDrawnModel, IsEarly}
use Rattle.delivery.specs.Drawn.{checks, names}
use Rattle.delivery.specs.Ending.{LayoutOutcome, CommandOutcome, ModelOutcome}
use Rattle.delivery.specs.Judging.{AreJudged, IsJudgedBy, at_fault, faulty, oversized, sound}
use Rattle.delivery.specs.Pieces.{IsJudged, IsTransfer}
use Rattle.delivery.specs.declared.judging.closing.Wanted.TheVariants.{Everything}
use Rattle.delivery.specs.declared.drawn.Delivered.{Delivered}
use Rattle.delivery.specs.declared.drawn.Delivered.TheVariants.{Clean, Ended}
use Rattle.delivery.specs.declared.judging.closing.Judged.TheVariants as judged
use Rattle.delivery.specs.declared.transfers.TransferReading.TheVariants as reading
use Rattle.delivery.proofs.Steps.{ended_for, model_on, not_read_ends, unread_ends}

-- a file was not read
pub not_read_early : (f : File) (r : FileRefusal) (o : Outcome) → IsNotRead f r o → IsEarly o
not_read_early f Failed o e = subst IsEarly (sym e) (record { unfiled = refl; early = tt })
not_read_early f TooLong o e = subst IsEarly (sym e) (record { unfiled = refl; early = tt })
not_read_early f Memory o e = absurd e

-- the model is refused
pub refused_early : (r : Refusal) (o : Outcome) → o ≡ refused r → IsEarly o
refused_early r o e = subst IsEarly (sym e) (record { unfiled = refl; early = tt })

-- neither rejects a transfer
not_rejected : (s : Status) (o p : Outcome) → o ≡ p → p.status ≡ s → o.status ≡ status.Rejected
    → s ≡ status.Rejected
not_rejected s o p e h r = sym h ∙ sym (ap (λ (q : Outcome). q.status) e) ∙ r

pub not_read_passes : (f : File) (r : FileRefusal) (o : Outcome) → IsNotRead f r o
    → o.status ≡ status.Rejected → ⊥
not_read_passes f Failed o e r =
    let s : status.ReadFault ≡ status.Rejected = not_rejected status.ReadFault o _ e refl r in
    absurd (cc)
not_read_passes f TooLong o e r =
    let s : status.OverLimit ≡ status.Rejected = not_rejected status.OverLimit o _ e refl r in
    absurd (cc)
not_read_passes f Memory o e r = absurd e

pub refused_passes : (r : Refusal) (o : Outcome) → o ≡ refused r → o.status ≡ status.Rejected → ⊥
refused_passes r o e q =
    let s : status.ModelRefused ≡ status.Rejected =
    not_rejected status.ModelRefused o (refused r) e refl q in
    absurd (cc)

-- the transfer is at fault, or an area is over its limit
pub judged_early : (l : Layout) (text : List ℕ) (o : Outcome) → IsJudgedBy l text (λ rows p. ⊥) o
    → IsEarly o
judged_early l text o (at_fault n code h e) =
    subst IsEarly (sym e) (record { unfiled = refl; early = tt })
judged_early l text o (faulty rows t n e) =
    subst IsEarly (sym e) (record { unfiled = refl; early = tt })
judged_early l text o (oversized rows t k b e) =
    subst IsEarly (sym e) (record { unfiled = refl; early = tt })
judged_early l text o (sound h) = absurd h.4

-- such a transfer ends a check of it
pub judged_ends : (held : Option Files) (counted : List ℕ → Type 0) (l : Layout)
    (transfer text : List ℕ) (o : Outcome)
    → IsWhole held transfer 268435456 text → IsJudgedBy l text (λ rows p. ⊥) o → (target : Target)
    → LayoutOutcome held counted (checks transfer target) l o
judged_ends held counted l transfer text o w h target = record {
  gathered = texts l (text ∷ []);
  reads = inr (inr (text, w, refl));
  amounts = ended_for l text (AreJudged target l) o h;
}

-- and so does one that was not read
pub unread_check : (held : Option Files) (counted : List ℕ → Type 0) (l : Layout)
    (transfer : List ℕ) (r : FileRefusal) (o : Outcome)
    → IsTransfer held transfer l (counted transfer) (reading.Unread r) → IsNotRead Transfer r o
    → (target : Target) → LayoutOutcome held counted (checks transfer target) l o
unread_check held counted l transfer r o h e target =
    let u = unread_ends Everything held counted (counted transfer) transfer l r o
    (λ q text. ReadsAll held counted l ([] ++ (text ∷ [])) [] q) h (λ n. n) e in
    record { gathered = u.0; reads = u.1; amounts = u.2 (checks transfer target) }

-- a text that was read from its file
pub drawn_file : (held : Option Files) (counted : List ℕ → Type 0) (l : Layout)
    (transfer text : List ℕ) (d : Delivered)
    → IsWhole held transfer 268435456 text → IsCleanText l text d
    → IsDrawnFile held counted l transfer d
drawn_file held counted l transfer text (Clean c) w h = (text, w, h)
drawn_file held counted l transfer text (Ended o) w h = (
  judged_ends held counted l transfer text (outcome_of o) w h.0,
  h.1,
  λ r. (text, w, h.0),
)

-- a file by a layout that the text of a model has
pub drawn_model : (held : Option Files) (counted : List ℕ → Type 0) (l : Layout)
    (model_text transfer : List ℕ) (d : Delivered)
    → HasLayout model_text l → IsValid l → IsDrawnFile held counted l transfer d
    → IsDrawnModel held counted model_text transfer d
drawn_model held counted l model_text transfer (Clean c) laid valid h =
    let same = sym h.2.layout in
    record {
      laid = subst (HasLayout model_text) same laid;
      valid = subst IsValid same valid;
      text = h.0;
      whole = h.1;
      clean = record {
        layout = refl;
        judged = subst
            (λ (k : Layout). IsJudged k h.0 (judged.Clean c.objects c.drawings c.surfaces)) same
            h.2.judged;
      };
    }
drawn_model held counted l model_text transfer (Ended o) laid valid h = (
  λ target. record {
    gathered = (h.0 target).gathered;
    compiles = inr (l, laid, (h.0 target).reads);
    amounts = (h.0 target).amounts;
  },
  h.1,
  λ r. (l, laid, h.2 r),
)

-- a refused model ends a check
pub refused_model : (held : Option Files) (counted : List ℕ → Type 0) (model_text transfer : List ℕ)
    (r : Refusal) (o : Outcome)
    → IsRefused model_text r → o ≡ refused r → (target : Target)
    → ModelOutcome held counted (checks transfer target) model_text o
refused_model held counted model_text transfer r o h e target =
    record { gathered = gathering.refused r; compiles = inl (r, h, refl); amounts = e }

-- the text of a model that was read from its file, where more counts may have risen since
pub drawn_files : (held : Option Files) (near far : List ℕ → Type 0) (counted : (name : List ℕ)
    → near name → far name) (model model_text transfer : List ℕ) (d : Delivered)
    → IsWhole held model 4194304 model_text → IsDrawnModel held near model_text transfer d
    → IsDelivered held far model transfer d
drawn_files held near far counted model model_text transfer (Clean c) w h =
    record { text = model_text; whole = w; by = h }
drawn_files held near far counted model model_text transfer (Ended o) w h = (
  λ third.
      let e = model_on held near far counted (checks transfer (check_target third)) model_text
      (outcome_of o) (h.0 (check_target third)) in
      record {
        gathered = e.gathered;
        gathers = inr (inr (model_text, w, e.compiles));
        amounts = e.amounts;
      },
  h.1,
  λ r. (model_text, w, h.2 r),
)

-- and one that was not read
pub unread_model : (T : Type 0) (held : Option Files) (counted : List ℕ → Type 0)
    (model transfer : List ℕ) (r : FileRefusal) (o : Outcome)
    → (IsErrOf {T = T} (Err r) Failed → counted model)
    → (IsErrOf {T = T} (Err r) TooLong → IsLonger held model 4194304) → IsNotRead Model r o
    → (third : List ℕ) → CommandOutcome held counted (on_files Check (names model transfer third)) o
unread_model T held counted model transfer r o a b e third =
    let u = not_read_ends T held counted Model model r o
    (λ q text. Compiles held counted (checks transfer (check_target third)) text q) a b e in
    record { gathered = u.0; gathers = u.1; amounts = u.2 (checks transfer (check_target third)) }
