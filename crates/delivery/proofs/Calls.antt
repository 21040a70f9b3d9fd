-- What a call answers and does, by what is decided and what is published.
use Rattle.std.proofs.Common.{◌≡◌, ◌≢◌, ◌⊎◌, inl, inr, ℕ, ◌≤◌, List, length, Option, Some, sym, ◌∙◌}
use Rattle.std.proofs.Common.{subst}
use Rattle.std.proofs.Common.{arith}
use Rattle.ports.specs.Faults.{CountsStay, NoReadFell, ReadRose}
use Rattle.ports.specs.Files.{Files}
use Rattle.ports.specs.Output.{Adds, AddsPrefix}
use Rattle.ports.specs.Reading.{OnlyReads}
use Rattle.ports.specs.Rooms.{HasRoom}
use Rattle.ports.proofs.Steps.{stay_then}
use Rattle.reports.specs.Outcomes.{Outcome, report_of}
use Rattle.reports.specs.declared.status.Status.{Status}
use Rattle.reports.specs.declared.status.Status.TheVariants.{Accepted, Undecided, WriteFault}
use Rattle.reports.specs.declared.status.Status.TheVariants.{Memory}
use Rattle.delivery.specs.Answers.{AgreeUnlessUnread, HasCause, IsStopped, HoldsOfTexts}
use Rattle.delivery.specs.Calls.{AreServed, IsCall, NoCountMoved, PutFailed, ReadFailed, Stores}
use Rattle.delivery.specs.Calls.{WriteFailed}
use Rattle.delivery.specs.Causes.{HasStraightAreas, IsValidInput}
use Rattle.delivery.specs.Deciding.{CallOutcome}
use Rattle.delivery.specs.Effects.{HasEffects, IsBegun, IsFiled}
use Rattle.delivery.specs.Served.{AreReadableFor, HasFilingSpace, IsServedFor}
use Rattle.delivery.proofs.Agreement.{exactly}
use Rattle.delivery.proofs.Causes.{caused, never_memory, not_write_fault}
use Rattle.delivery.proofs.Certified.{certifies}
use Rattle.delivery.proofs.ServedLemmas.{not_rose, same_space}
use Rattle.delivery.proofs.Steps.{decides_on, passes_on, rose_after, rose_before}
use Rattle.delivery.proofs.StraightAreas.{decided}
use Rattle.delivery.proofs.ValidInput.{accepted, accepted_or_memory}

-- ---- the parts of a call
-- the call has only read, between these two
abbrev pub HasOnlyRead : List (List ℕ) → Stores → Stores → Type 0
HasOnlyRead words old mid =
    OnlyReads (AreReadableFor words old.readable) old.held old.read_faults old.write_faults
    old.readable old.space mid.held mid.read_faults mid.write_faults mid.readable mid.space

-- the outcome is published over the files that were read, and the output as it was first
pub record IsPublished (o : Outcome) (old mid new : Stores) (status : Status) : Type 0 where
  pub answered : status ≢ WriteFault → status ≡ o.status
  pub text : status ≢ WriteFault → Adds old.written (report_of o) new.written
  pub prefix : AddsPrefix old.written (report_of o) new.written
  pub begun : IsBegun o.filing mid.held new.held
  pub filed : status ≢ WriteFault → IsFiled o.filing mid.held new.held
  pub whole : (WriteFailed mid new → ⊥) ⊎ (new.written ≢ old.written)
      → IsFiled o.filing mid.held new.held
  pub reads : NoReadFell mid.read_faults new.read_faults
  pub writes : mid.write_faults ≤ new.write_faults
  pub faults : old.output_faults ≤ new.output_faults
  pub cause : status ≡ WriteFault → o.status ≢ WriteFault → WriteFailed mid new ⊎ PutFailed old new
  pub stay : HasFilingSpace mid.space o.filing → HasRoom (length (report_of o)) old.output_space
      → CountsStay mid.read_faults mid.write_faults new.read_faults new.write_faults
      × (new.output_faults ≡ old.output_faults)

-- the laws of outcomes
pub record CallLaws : Type 0 where
  pub cause : (held : Option Files) (before after : List ℕ → ℕ) (words : List (List ℕ))
      (o : Outcome)
      → CallOutcome held (ReadRose before after) words o
      → HasCause held (ReadRose before after) words o.status
  pub agree : (files : Files) (before after from upto : List ℕ → ℕ) (words : List (List ℕ))
      (o p : Outcome) → CallOutcome (Some files) (ReadRose before after) words o
      → CallOutcome (Some files) (ReadRose from upto) words p → AgreeUnlessUnread o p
  pub straights : (files : Files) (before after from upto : List ℕ → ℕ) (words : List (List ℕ))
      → HoldsOfTexts (Some files) (ReadRose before after) words HasStraightAreas
      → HasCause (Some files) (ReadRose from upto) words Undecided → ⊥
  pub valid : (files : Files) (before after from upto : List ℕ → ℕ) (words : List (List ℕ))
      (status : Status) → HoldsOfTexts (Some files) (ReadRose before after) words IsValidInput
      → HasCause (Some files) (ReadRose from upto) words status
      → (status ≡ Accepted) ⊎ IsStopped status

-- ---- an outcome is published
module _ (laws : CallLaws) (words : List (List ℕ)) (old mid new : Stores) (o : Outcome)
    (status : Status) (is_so : CallOutcome old.held (ReadFailed old mid) words o)
    (read : HasOnlyRead words old mid) (p : IsPublished o old mid new status) where
  rose : (name : List ℕ) → ReadFailed old mid name → ReadFailed old new name
  rose name r =
      rose_before (old.read_faults name) (mid.read_faults name) (new.read_faults name)
      (p.reads name) r

  written : WriteFailed mid new → WriteFailed old new
  written r = rose_after old.write_faults mid.write_faults new.write_faults read.writes r

  still : CallOutcome old.held (ReadFailed old new) words o
  still = decides_on old.held (ReadFailed old mid) (ReadFailed old new) rose words o is_so

  fixed : status ≢ Memory
  fixed = never_memory old.held (ReadFailed old mid) words o status is_so p.answered

  cause : HasCause old.held (ReadFailed old new) words status
  cause =
      caused old.held (ReadFailed old new) words o status
      (laws.cause old.held old.read_faults new.read_faults words o) still p.answered

  valid : (files : Files) → old.held ≡ Some files
      → HoldsOfTexts (Some files) (ReadFailed old new) words IsValidInput
      → (status ≡ Accepted) ⊎ IsStopped status
  valid =
      accepted old.held (ReadFailed old new) words status cause
      (λ files. laws.valid files old.read_faults new.read_faults old.read_faults new.read_faults
      words status)

  write : status ≡ WriteFault → WriteFailed old new ⊎ PutFailed old new
  write w =
      elim (p.cause w (not_write_fault old.held (ReadFailed old mid) words o is_so))
      as (λ z. WriteFailed old new ⊎ PutFailed old new) [
        | inl r ↦ inl (written r)
        | inr r ↦ inr r
      ]

  filed : IsFiled o.filing mid.held new.held → IsFiled o.filing old.held new.held
  filed = subst (λ (held : Option Files). IsFiled o.filing held new.held) read.held

  unmoved : IsServedFor words old.readable old.space old.output_space o → NoCountMoved old new
  unmoved s =
      let space = same_space old.space mid.space read.ready.space o.filing s.filing in
      let stay = p.stay space s.report in (
        stay_then old.read_faults old.write_faults mid.read_faults mid.write_faults
            new.read_faults new.write_faults (read.stay s.files) stay.0,
        stay.1,
      )

  effects : HasEffects old.held (ReadFailed old new) words status new.held (WriteFailed old new)
      old.written new.written (IsServedFor words old.readable old.space old.output_space)
      (NoCountMoved old new)
  effects = record {
    outcome = o;
    decided = still;
    answered = p.answered;
    reported = p.text;
    begun = p.prefix;
    files = subst (λ (held : Option Files). IsBegun o.filing held new.held) read.held p.begun;
    filed = λ h. filed (elim h as (λ z. IsFiled o.filing mid.held new.held) [
      | inl n ↦ p.filed n
      | inr k ↦ p.whole (elim k [ inl f ↦ inl (λ r. f (written r)) | inr e ↦ inr e ])
    ]);
    unmoved = unmoved;
  }

  -- without a fault the outcome is that of files that could be read
  complete : ((name : List ℕ) → ReadFailed old new name → ⊥) → (WriteFailed old new → ⊥)
      → (PutFailed old new → ⊥)
      → (q : Outcome) × CallOutcome old.held (λ name. ⊥) words q × (status ≡ q.status)
  complete f g h = (
    o,
    decides_on old.held (ReadFailed old mid) (λ name. ⊥) (λ name r. f name (rose name r)) words o
        is_so,
    p.answered (λ w. elim (write w) as (λ z. ⊥) [ inl r ↦ g r | inr r ↦ h r ]),
  )

  module _ (s : AreServed words old) where
    readable : (name : List ℕ) → ReadFailed old mid name → ⊥
    readable name r =
        not_rose (old.read_faults name) (mid.read_faults name) (s.below.read name)
        ((read.stay s.served.files).reads name) r

    stays : NoCountMoved old new
    stays =
        let here = decides_on old.held (ReadFailed old mid) (λ name. ⊥) readable words o is_so in
        unmoved (record {
          files = s.served.files;
          filing = s.served.filing o here;
          report = s.served.report o here;
        })

    unread : (name : List ℕ) → ReadFailed old new name → ⊥
    unread name r =
        not_rose (old.read_faults name) (new.read_faults name) (s.below.read name)
        (stays.0.reads name) r

    unwritten : WriteFailed old new → ⊥
    unwritten r =
        not_rose old.write_faults new.write_faults s.below.write stays.0.writes r

    unput : PutFailed old new → ⊥
    unput r = not_rose old.output_faults new.output_faults s.below.put stays.1 r

  accepts : (files : Files) → old.held ≡ Some files
      → HoldsOfTexts (Some files) (λ name. ⊥) words IsValidInput → AreServed words old
      → (status ≡ Accepted) ⊎ (status ≡ Memory)
  accepts files e v s =
      accepted_or_memory old.held (ReadFailed old new) (unread s) words status cause
      (λ w. elim (write w) as (λ z. ⊥) [ inl r ↦ unwritten s r | inr r ↦ unput s r ])
      (valid files e (passes_on (Some files) (λ name. ⊥) (ReadFailed old new) (λ name f. absurd f)
      words IsValidInput v))

  pub called : IsCall words old new status
  called = record {
    cause = cause;
    decided = decided old.held (ReadFailed old new) words status cause
        (λ files. laws.straights files old.read_faults new.read_faults old.read_faults
        new.read_faults words);
    valid = valid;
    certified = λ a.
        let fine : status ≢ WriteFault = λ w. (let e = sym a ∙ w in cc) in
        certifies old.held (ReadFailed old new) words o new.held still
        (sym (p.answered fine) ∙ a) (filed (p.filed fine));
    effects = λ m. effects;
    exact = exactly old.held (ReadFailed old new) (ReadFailed old mid) words o status old.written
        new.written
        (λ files x y. laws.agree files old.read_faults new.read_faults old.read_faults
        mid.read_faults words x y) is_so p.answered p.text;
    write = write;
    memory = λ m. absurd (fixed m);
    counts = λ m. absurd (fixed m);
    complete = λ f. inr (complete f.no_read f.no_write f.no_put);
    served = λ s. (stays s, inr (complete (unread s) (unwritten s) (unput s)));
    accepts = accepts;
    reads = λ name. after (old.read_faults name) (mid.read_faults name) (new.read_faults name)
        (read.reads name) (p.reads name);
    writes = after old.write_faults mid.write_faults new.write_faults read.writes p.writes;
    faults = p.faults;
  }
    where
      after : (a b c : ℕ) → a ≤ b → b ≤ c → a ≤ c
      after a b c h k = omega (arith, h, k)
