-- What the outcome of the words and the files says of the answer.
use Rattle.std.proofs.Common.{◌≡◌, ℕ, Bool, true, false, ◌||◌, List, [], ◌∷◌, Option, refl, sym}
use Rattle.std.proofs.Common.{◌∙◌, subst, inl, inr}
use Rattle.std.specs.Prelude.{◌≢◌, ⊤}
use Rattle.ports.specs.Files.{Files}
use Rattle.itf_reader.specs.Forms.{Row}
use Rattle.table_layout.specs.Layouts.{Layout}
use Rattle.reports.specs.declared.status.Status.{Status}
use Rattle.reports.specs.declared.status.Status.TheVariants.{Accepted, Rejected, Undecided}
use Rattle.reports.specs.declared.status.Status.TheVariants.{ModelRefused, Usage, ReadFault}
use Rattle.reports.specs.declared.status.Status.TheVariants.{WriteFault, OverLimit, Memory}
use Rattle.reports.specs.declared.status.Status.TheVariants.{NotProved}
use Rattle.delivery.specs.Answers.{HasCause}
use Rattle.commands.specs.Commands.{Command, Source, Target, Task, lists, judges, verifies}
use Rattle.commands.specs.Commands.{rewrites, tests_points, task_of, IsCommand}
use Rattle.delivery.specs.Deciding.{CallOutcome, without_command, with_command}
use Rattle.commands.specs.Gathering as gathering
use Rattle.commands.specs.Gathering.{Gathered, InputsOf}
use Rattle.delivery.specs.Causes.{HasOutcome, HasFault, HasLargeArea, Accepts, Rejects}
use Rattle.delivery.specs.Causes.{LeavesUndecided, Unproves, IsOversized}
use Rattle.delivery.specs.Judging.{findings, objects, HasSoundRows, AreJudged, IsJudgedBy, at_fault}
use Rattle.delivery.specs.Judging.{faulty, oversized, sound, IsChecked}
use Rattle.delivery.specs.Rewriting.{canon_of, IsRewritten, misread, without_text, written}
use Rattle.reports.specs.Outcomes.{bad_link, Outcome, usage, unread, too_long, area_too_large}
use Rattle.reports.specs.Outcomes.{refused, compiled, malformed, rejected, verified, canonical}
use Rattle.reports.specs.Outcomes.{canon_refused}
use Rattle.std.proofs.Common.{length}
use Rattle.std.specs.Prelude.{Ok}
use Rattle.area_links.specs.Rules.{Rule, links_of}
use Rattle.area_drawings.specs.AreaLimits.{has_too_large}
use Rattle.delivery.specs.Answers.{HoldsOfTexts}
use Rattle.delivery.specs.Causes.{AreLinksWrong, AreParted}
use Rattle.delivery.specs.Judging.{IsClean, IsTextOf}
use Rattle.delivery.specs.Links.{AreLinked, AreTested, AreTestedBy, IsLinked, bad, pair_count}
use Rattle.delivery.specs.Links.{tested}
use Rattle.delivery.proofs.HeldLinks.{all_held, some_fails, some_misplaced}
use Rattle.delivery.proofs.LinkedOutcomes.{fine_all, linked_by, linked_is}
use Rattle.delivery.specs.FiledTexts.{AreVerified, IsVerified}
use Rattle.reports.specs.Verifications as verifications
use Rattle.delivery.specs.Verifying.{IsVerification}
use Rattle.reports.specs.Verifications.{Verification}
use Rattle.reports.specs.Surfaces.{surfaces}
use Rattle.delivery.specs.Surfaces.{AreRightSurfaces}
use Rattle.delivery.proofs.SurfaceLemmas.{faulty_surface, right_surfaces}
use Rattle.delivery.proofs.AreaLemmas.{AreaLaws, some_fault, surface_fault, some_undecided}
use Rattle.delivery.proofs.AreaLemmas.{by_answers, outcome_by, faulty_area, left_areas}
use Rattle.delivery.proofs.AreaLemmas.{parted_areas}

-- ---- the causes
module _ (laws : AreaLaws) (held : Option Files) (counted : List ℕ → Type 0)
    (words : List (List ℕ)) where
  -- what is said of an outcome is said of one that is equal
  moved : (o p : Outcome) → o ≡ p → HasCause held counted words p.status
      → HasCause held counted words o.status
  moved o p e h = subst (λ (x : Outcome). HasCause held counted words x.status) (sym e) h

  -- a task whose transfer is judged, and what its tests say of its texts
  module _ (c : Command) (i : IsCommand words c) (l : Layout) (text : List ℕ) (ts : List (List ℕ))
      (g_ : InputsOf held counted c (gathering.texts l ts))
      (rejects : HasFault l text → Rejects (task_of c) l ts)
      (exceeds : HasLargeArea l text → IsOversized (task_of c) l ts)
      (Areas : List (List Row) → Outcome → Type 0)
      (areas : (o : Outcome) → HasSoundRows l text (λ rows. Areas rows o)
      → HasCause held counted words o.status) where
    judged_means : (o : Outcome) → IsJudgedBy l text Areas o → HasCause held counted words o.status
    judged_means o (at_fault n code h e) =
        moved o (malformed n code) e (c, l, ts, i, g_, rejects (inl (n, code, h)))
    judged_means o (faulty rows t n e) =
        moved o (rejected (findings l rows)) e (c, l, ts, i, g_, rejects (inr (rows, t, n)))
    judged_means o (oversized rows t k b e) =
        moved o area_too_large e (inr (c, l, ts, i, g_, exceeds (rows, t, k, b)))
    judged_means o (sound h) = areas o h

  -- a transfer whose areas are searched
  module _ (c : Command) (s : Source) (target : Target) (e : task_of c ≡ judges s target)
      (i : IsCommand words c) (l : Layout) (text : List ℕ)
      (g_ : InputsOf held counted c (gathering.texts l (text ∷ []))) where
    -- what a test says of the task, said of the command
    by_task : (test : Task → Layout → List (List ℕ) → Type 0) → test (judges s target) l (text ∷ [])
        → test (task_of c) l (text ∷ [])
    by_task test h = subst (λ (t : Task). test t l (text ∷ [])) (sym e) h

    areas_mean : (o : Outcome) → HasSoundRows l text (λ rows. AreJudged target l rows o)
        → HasCause held counted words o.status
    areas_mean o (rows, t, k, b, j) =
        moved o (by_kinds (some_fault j.answers || surface_fault l j.surface_answers)
        (some_undecided j.answers))
        (j.is ∙ by_answers l (objects rows) target j.surface_answers j.drawings j.answers
        j.certificates j.polygons j.answered)
        (by (some_fault j.answers) (surface_fault l j.surface_answers)
        (some_undecided j.answers) refl refl refl)
      where
        by_kinds : Bool → Bool → Outcome
        by_kinds f g =
            outcome_by l (objects rows) target j.surface_answers j.answers j.certificates
            j.polygons f g

        right : surface_fault l j.surface_answers ≡ false → AreRightSurfaces l rows
        right = right_surfaces l rows (surfaces l) j.surface_answers j.surfaces_answered

        by : (f s g : Bool) → some_fault j.answers ≡ f → surface_fault l j.surface_answers ≡ s
            → some_undecided j.answers ≡ g
            → HasCause held counted words (by_kinds (f || s) g).status
        by true s g f e h = (
          c,
          l,
          text ∷ [],
          i,
          g_,
          by_task Rejects (inr (
            rows,
            t,
            k,
            b,
            inl (faulty_area laws l rows j.drawings j.answers j.certificates j.drawn j.answered f),
          )),
        )
        by false true g f e h = (
          c,
          l,
          text ∷ [],
          i,
          g_,
          by_task Rejects (inr (
            rows,
            t,
            k,
            b,
            inr (faulty_surface l rows (surfaces l) j.surface_answers j.surfaces_answered e),
          )),
        )
        by false false true f e h = (
          c,
          l,
          text ∷ [],
          i,
          g_,
          by_task LeavesUndecided (
            rows,
            t,
            k,
            b,
            (
              left_areas laws l rows j.drawings j.answers j.certificates j.drawn j.answered f h,
              right e,
            ),
          ),
        )
        by false false false f e h = (
          c,
          l,
          text ∷ [],
          i,
          g_,
          by_task Accepts (
            rows,
            t,
            k,
            b,
            (
              parted_areas laws l rows j.drawings j.answers j.certificates j.drawn j.answered f h,
              right e,
            ),
          ),
        )

    checked_means : (o : Outcome) → IsChecked target l text o → HasCause held counted words o.status
    checked_means =
        judged_means c i l text (text ∷ []) g_ (λ h. by_task Rejects (inl h)) (by_task IsOversized)
        (AreJudged target l) areas_mean

  -- a transfer with filed certificates
  module _ (c : Command) (s r : Source) (e : task_of c ≡ verifies s r) (i : IsCommand words c)
      (l : Layout) (text filed : List ℕ)
      (g_ : InputsOf held counted c (gathering.texts l (text ∷ filed ∷ []))) where
    with_filed : (test : Task → Layout → List (List ℕ) → Type 0)
        → test (verifies s r) l (text ∷ filed ∷ []) → test (task_of c) l (text ∷ filed ∷ [])
    with_filed test h = subst (λ (t : Task). test t l (text ∷ filed ∷ [])) (sym e) h

    -- the status of what certificates prove
    filed_mean : (o : Outcome) → HasSoundRows l text (λ rows. AreVerified l filed rows o)
        → HasCause held counted words o.status
    filed_mean o (rows, t, k, b, j) =
        moved o (verified l (objects rows) j.drawings j.verification) j.is
        (by j.verification j.judged)
      where
        by : (v : Verification) → IsVerification l j.drawings filed v
            → HasCause held counted words (verified l (objects rows) j.drawings v).status
        by (verifications.proved levels) h = (
          c,
          l,
          text ∷ filed ∷ [],
          i,
          g_,
          with_filed Accepts (
            rows,
            t,
            k,
            b,
            (
              (j.drawings, j.drawn, levels, h),
              laws.verified l rows j.drawings filed levels j.drawn h,
            ),
          ),
        )
        by (verifications.not_proved a rule place) h = (
          c,
          l,
          text ∷ filed ∷ [],
          i,
          g_,
          with_filed Unproves (rows, t, k, b, (j.drawings, j.drawn, a, rule, place, h)),
        )

    verify_means : (o : Outcome) → IsVerified l text filed o → HasCause held counted words o.status
    verify_means =
        judged_means c i l text (text ∷ filed ∷ []) g_ (with_filed Rejects) (with_filed IsOversized)
        (AreVerified l filed) filed_mean

  -- a transfer with links
  module _ (c : Command) (s r : Source) (e : task_of c ≡ tests_points s r) (i : IsCommand words c)
      (l : Layout) (text links : List ℕ)
      (g_ : InputsOf held counted c (gathering.texts l (text ∷ links ∷ []))) where
    with_links : (test : Task → Layout → List (List ℕ) → Type 0)
        → test (tests_points s r) l (text ∷ links ∷ []) → test (task_of c) l (text ∷ links ∷ [])
    with_links test h = subst (λ (t : Task). test t l (text ∷ links ∷ [])) (sym e) h

    tested_mean : (rules : List Rule) → links_of l links ≡ Ok rules → (rows : List (List Row))
        → IsTextOf l text rows → IsClean l rows → has_too_large rows l.areas ≡ false
        → (o : Outcome) → AreTestedBy l rules rows o → HasCause held counted words o.status
    tested_mean rules q rows t k b o j =
        moved o (kinds (some_fault j.answers || surface_fault l j.surface_answers)
        (some_undecided j.answers) (some_misplaced j.misplaced))
        (j.is ∙ linked_is l (objects rows) j.surface_answers j.answers j.misplaced (length rules)
        (pair_count l rows rules) j.drawings j.certificates j.answered)
        (by (some_fault j.answers) (surface_fault l j.surface_answers)
        (some_undecided j.answers) (some_misplaced j.misplaced) refl refl refl refl)
      where
        kinds : Bool → Bool → Bool → Outcome
        kinds f g m =
            linked_by l (objects rows) j.surface_answers j.answers j.misplaced (length rules)
            (pair_count l rows rules) f g m

        right : surface_fault l j.surface_answers ≡ false → AreRightSurfaces l rows
        right = right_surfaces l rows (surfaces l) j.surface_answers j.surfaces_answered

        parted : some_fault j.answers ≡ false → some_undecided j.answers ≡ false
            → surface_fault l j.surface_answers ≡ false → AreParted l rows
        parted f h e = (
          parted_areas laws l rows j.drawings j.answers j.certificates j.drawn j.answered f h,
          right e,
        )

        found : some_fault j.answers ≡ false → some_undecided j.answers ≡ false
            → AreTested l rows j.drawings rules j.misplaced
        found f h = j.tested (fine_all j.answers f h)

        rejects : AreLinksWrong l links rows → HoldsOfTexts held counted words Rejects
        rejects h =
            (c, l, text ∷ links ∷ [], i, g_, with_links Rejects (inr (rows, t, k, b, h)))

        by : (f s g m : Bool) → some_fault j.answers ≡ f → surface_fault l j.surface_answers ≡ s
            → some_undecided j.answers ≡ g → some_misplaced j.misplaced ≡ m
            → HasCause held counted words (kinds (f || s) g m).status
        by true s g m f e h n =
            rejects (inr (inl (
              (rules, q),
              inl (faulty_area laws l rows j.drawings j.answers
                  j.certificates j.drawn j.answered f),
            )))
        by false true g m f e h n =
            rejects (inr (inl (
              (rules, q),
              inr (faulty_surface l rows (surfaces l)
                  j.surface_answers j.surfaces_answered e),
            )))
        by false false true m f e h n = (
          c,
          l,
          text ∷ links ∷ [],
          i,
          g_,
          with_links LeavesUndecided (
            rows,
            t,
            k,
            b,
            (
              (rules, q),
              (
                left_areas laws l rows j.drawings j.answers j.certificates j.drawn j.answered f h,
                right e,
              ),
            ),
          ),
        )
        by false false false true f e h n =
            rejects (inr (inr (
              parted f h e,
              (
                rules,
                q,
                some_fails l rows j.drawings j.drawn rules
                    j.misplaced (found f h) n,
              ),
            )))
        by false false false false f e h n = (
          c,
          l,
          text ∷ links ∷ [],
          i,
          g_,
          with_links Accepts (
            rows,
            t,
            k,
            b,
            (
              parted f h e,
              (rules, q, all_held l rows j.drawings j.drawn rules j.misplaced (found f h) n),
            ),
          ),
        )

    links_mean : (o : Outcome) → HasSoundRows l text (λ rows. AreLinked l links rows o)
        → HasCause held counted words o.status
    links_mean o (rows, t, k, b, bad n q w) =
        moved o (bad_link n) w
        (c, l, text ∷ links ∷ [], i, g_, with_links Rejects (inr (rows, t, k, b, inl (n, q))))
    links_mean o (rows, t, k, b, tested rules q j) = tested_mean rules q rows t k b o j

    linked_means : (o : Outcome) → IsLinked l text links o → HasCause held counted words o.status
    linked_means =
        judged_means c i l text (text ∷ links ∷ []) g_ (λ h. with_links Rejects (inl h))
        (with_links IsOversized) (AreLinked l links) links_mean

  -- a transfer that is written in its canonical text
  rewrite_means : (c : Command) (s : Source) (name : List ℕ) → task_of c ≡ rewrites s name
      → IsCommand words c → (l : Layout) (text : List ℕ)
      → InputsOf held counted c (gathering.texts l (text ∷ [])) → (o : Outcome)
      → IsRewritten name l text o → HasCause held counted words o.status
  rewrite_means c s name e i l text g o (misread n code h q) =
      moved o (malformed n code) q (
        c,
        l,
        text ∷ [],
        i,
        g,
        subst (λ (t : Task). Rejects t l (text ∷ [])) (sym e) (inl (n, code, h)),
      )
  rewrite_means c s name e i l text g o (without_text rows t k q) =
      moved o canon_refused q (
        c,
        l,
        text ∷ [],
        i,
        g,
        subst (λ (t : Task). Rejects t l (text ∷ [])) (sym e) (inr (rows, t, k)),
      )
  rewrite_means c s name e i l text g o (written rows t k q) =
      moved o (canonical name (objects rows) (canon_of l rows)) q (
        c,
        l,
        text ∷ [],
        i,
        g,
        subst (λ (t : Task). Accepts t l (text ∷ [])) (sym e)
            (rows, t, k),
      )

  -- a command by its task
  task_means : (c : Command) (t : Task) (g : Gathered) → task_of c ≡ t → IsCommand words c
      → InputsOf held counted c g → (o : Outcome) → HasOutcome t g o
      → HasCause held counted words o.status
  task_means c t (gathering.unread f) e i h o k = moved o (unread f) k (f, (c, i, h))
  task_means c t (gathering.too_long f) e i h o k = moved o (too_long f) k (inl (f, (c, i, h)))
  task_means c t (gathering.refused r) e i h o k = moved o (refused r) k (r, (c, i, h))
  task_means c lists (gathering.texts l ts) e i h o k =
      moved o (compiled l) k (c, l, ts, i, h, subst (λ (t : Task). Accepts t l ts) (sym e) tt)
  task_means c (judges s target) (gathering.texts l (text ∷ [])) e i h o k =
      checked_means c s target e i l text h o k
  task_means c (verifies s r) (gathering.texts l (text ∷ filed ∷ [])) e i h o k =
      verify_means c s r e i l text filed h o k
  task_means c (rewrites s name) (gathering.texts l (text ∷ [])) e i h o k =
      rewrite_means c s name e i l text h o k
  task_means c (tests_points s r) (gathering.texts l (text ∷ links ∷ [])) e i h o k =
      linked_means c s r e i l text links h o k
  task_means c t (gathering.texts l ts) e i h o k = absurd k

  -- the status of the outcome has its cause
  pub means : (o : Outcome) → CallOutcome held counted words o
      → HasCause held counted words o.status
  means o (without_command u e) = moved o usage e u
  means o (with_command c g i h a) = task_means c (task_of c) g refl i h o a

-- ---- no outcome is that a write failed, or that memory ran out
abbrev pub IsFixed : Status → Type 0
IsFixed WriteFault = ⊥
IsFixed Memory = ⊥
IsFixed _ = ⊤

fixed_as : (o p : Outcome) → o ≡ p → IsFixed p.status → IsFixed o.status
fixed_as o p e h = subst (λ (x : Outcome). IsFixed x.status) (sym e) h

areas_fixed : (target : Target) (l : Layout) (rows : List (List Row)) (o : Outcome)
    → AreJudged target l rows o → IsFixed o.status
areas_fixed target l rows o j =
    fixed_as o (by_kinds (some_fault j.answers || surface_fault l j.surface_answers)
    (some_undecided j.answers))
    (j.is ∙ by_answers l (objects rows) target j.surface_answers j.drawings j.answers
    j.certificates j.polygons j.answered)
    (by (some_fault j.answers || surface_fault l j.surface_answers) (some_undecided j.answers))
  where
    by_kinds : Bool → Bool → Outcome
    by_kinds f g =
        outcome_by l (objects rows) target j.surface_answers j.answers j.certificates j.polygons
        f g

    by : (f g : Bool) → IsFixed (by_kinds f g).status
    by true g = tt
    by false true = tt
    by false false = tt

verified_fixed : (l : Layout) (rows : List (List Row)) (filed : List ℕ) (o : Outcome)
    → AreVerified l filed rows o → IsFixed o.status
verified_fixed l rows filed o j =
    fixed_as o (verified l (objects rows) j.drawings j.verification) j.is (by j.verification)
  where
    by : (v : Verification) → IsFixed (verified l (objects rows) j.drawings v).status
    by (verifications.proved levels) = tt
    by (verifications.not_proved a rule place) = tt

judged_fixed : (l : Layout) (text : List ℕ) (Areas : List (List Row) → Outcome → Type 0)
    → ((rows : List (List Row)) (o : Outcome) → Areas rows o → IsFixed o.status) → (o : Outcome)
    → IsJudgedBy l text Areas o → IsFixed o.status
judged_fixed l text Areas areas o (at_fault n code h e) = fixed_as o (malformed n code) e tt
judged_fixed l text Areas areas o (faulty rows t n e) = fixed_as o (rejected (findings l rows)) e tt
judged_fixed l text Areas areas o (oversized rows t k b e) = fixed_as o area_too_large e tt
judged_fixed l text Areas areas o (sound h) = areas h.0 o h.4

links_fixed : (l : Layout) (links : List ℕ) (rows : List (List Row)) (o : Outcome)
    → AreLinked l links rows o → IsFixed o.status
links_fixed l links rows o (bad n q e) = fixed_as o (bad_link n) e tt
links_fixed l links rows o (tested rules q j) =
    fixed_as o (kinds (some_fault j.answers || surface_fault l j.surface_answers)
    (some_undecided j.answers) (some_misplaced j.misplaced))
    (j.is ∙ linked_is l (objects rows) j.surface_answers j.answers j.misplaced (length rules)
    (pair_count l rows rules) j.drawings j.certificates j.answered)
    (by (some_fault j.answers || surface_fault l j.surface_answers) (some_undecided j.answers)
    (some_misplaced j.misplaced))
  where
    kinds : Bool → Bool → Bool → Outcome
    kinds f g m =
        linked_by l (objects rows) j.surface_answers j.answers j.misplaced (length rules)
        (pair_count l rows rules) f g m

    by : (f g m : Bool) → IsFixed (kinds f g m).status
    by true g m = tt
    by false true m = tt
    by false false true = tt
    by false false false = tt

rewrite_fixed : (name : List ℕ) (l : Layout) (text : List ℕ) (o : Outcome)
    → IsRewritten name l text o → IsFixed o.status
rewrite_fixed name l text o (misread n code h e) = fixed_as o (malformed n code) e tt
rewrite_fixed name l text o (without_text rows t k e) = fixed_as o canon_refused e tt
rewrite_fixed name l text o (written rows t k e) =
    fixed_as o (canonical name (objects rows) (canon_of l rows)) e tt

task_fixed : (t : Task) (g : Gathered) (o : Outcome) → HasOutcome t g o → IsFixed o.status
task_fixed t (gathering.unread f) o e = fixed_as o (unread f) e tt
task_fixed t (gathering.too_long f) o e = fixed_as o (too_long f) e tt
task_fixed t (gathering.refused r) o e = fixed_as o (refused r) e tt
task_fixed lists (gathering.texts l ts) o e = fixed_as o (compiled l) e tt
task_fixed (judges s target) (gathering.texts l (text ∷ [])) o k =
    judged_fixed l text (AreJudged target l) (λ rows p j. areas_fixed target l rows p j) o k
task_fixed (verifies s r) (gathering.texts l (text ∷ filed ∷ [])) o k =
    judged_fixed l text (AreVerified l filed) (λ rows p j. verified_fixed l rows filed p j) o k
task_fixed (rewrites s name) (gathering.texts l (text ∷ [])) o k = rewrite_fixed name l text o k
task_fixed (tests_points s r) (gathering.texts l (text ∷ links ∷ [])) o k =
    judged_fixed l text (AreLinked l links) (λ rows p j. links_fixed l links rows p j) o k
task_fixed t (gathering.texts l ts) o k = absurd k

fixed : (held : Option Files) (counted : List ℕ → Type 0) (words : List (List ℕ)) (o : Outcome)
    → CallOutcome held counted words o → IsFixed o.status
fixed held counted words o (without_command u e) = fixed_as o usage e tt
fixed held counted words o (with_command c g i h a) = task_fixed (task_of c) g o a

pub not_write_fault : (held : Option Files) (counted : List ℕ → Type 0) (words : List (List ℕ))
    (o : Outcome)
    → CallOutcome held counted words o → o.status ≢ WriteFault
not_write_fault held counted words o h e = subst IsFixed e (fixed held counted words o h)

pub not_memory : (held : Option Files) (counted : List ℕ → Type 0) (words : List (List ℕ))
    (o : Outcome)
    → CallOutcome held counted words o → o.status ≢ Memory
not_memory held counted words o h e = subst IsFixed e (fixed held counted words o h)

-- ---- an answer that is that of an outcome, unless a write failed
-- a status is that a write failed, or it is not
pub by_write : (A : Type 0) (s : Status) → (s ≡ WriteFault → A) → (s ≢ WriteFault → A) → A
by_write A WriteFault f n = f refl
by_write A Accepted f n = n (λ e. cc)
by_write A Rejected f n = n (λ e. cc)
by_write A Undecided f n = n (λ e. cc)
by_write A ModelRefused f n = n (λ e. cc)
by_write A Usage f n = n (λ e. cc)
by_write A ReadFault f n = n (λ e. cc)
by_write A OverLimit f n = n (λ e. cc)
by_write A Memory f n = n (λ e. cc)
by_write A NotProved f n = n (λ e. cc)

pub caused : (held : Option Files) (counted : List ℕ → Type 0) (words : List (List ℕ)) (o : Outcome)
    (s : Status)
    → (CallOutcome held counted words o → HasCause held counted words o.status)
    → CallOutcome held counted words o → (s ≢ WriteFault → s ≡ o.status)
    → HasCause held counted words s
caused held counted words o s law h e =
    by_write (HasCause held counted words s) s
    (λ w. subst (HasCause held counted words) (sym w) tt)
    (λ n. subst (HasCause held counted words) (sym (e n)) (law h))

-- such an answer is not out of memory
pub never_memory : (held : Option Files) (counted : List ℕ → Type 0) (words : List (List ℕ))
    (o : Outcome) (s : Status)
    → CallOutcome held counted words o → (s ≢ WriteFault → s ≡ o.status) → s ≢ Memory
never_memory held counted words o s h e m =
    by_write ⊥ s (λ w. let k : WriteFault ≡ Memory = sym w ∙ m in
    cc) (λ n. not_memory held counted words o h (sym (e n) ∙ m))
