-- What an accepted command leaves: certificates that prove its areas, their polygons, or a
-- canonical text.
use Rattle.std.proofs.Common.{◌≡◌, ℕ, Bool, true, false, ◌||◌, List, [], ◌∷◌, ◌++◌, Option, Some}
use Rattle.std.proofs.Common.{refl, sym, ap, ◌∙◌, subst}
use Rattle.std.specs.List.{AllByRecursion}
use Rattle.ports.specs.Files.{Files}
use Rattle.certificate.specs.Spelling.{CanSay, Plain, Spells, spelling}
use Rattle.certificate.specs.declared.forms.Version.TheVariants.{Two}
use Rattle.table_layout.specs.Layouts.{AreaOf, Layout}
use Rattle.plane.specs.Rule.Plans.{Plan}
use Rattle.delivery.specs.Causes.{HasOutcome}
use Rattle.delivery.specs.AreaAnswers.{IsAnswer, faulty, undecided, proved, AreAnswers}
use Rattle.delivery.specs.AreaCertificates.{IsCertificateOf, AreCertificatesOf}
use Rattle.delivery.specs.AreaPolygons.{ArePolygonsFor}
use Rattle.delivery.specs.Certified.{AreCertified, LeavesFiled, Leaves, Certifies}
use Rattle.commands.specs.Commands.{Command, Target, Source, Task, lists, judges, verifies}
use Rattle.commands.specs.Commands.{rewrites, tests_points, task_of, writes_to}
use Rattle.commands.specs.declared.task.Filed.{Filed}
use Rattle.commands.specs.declared.task.Filed.TheVariants as filed
use Rattle.delivery.specs.Deciding.{CallOutcome, without_command, with_command}
use Rattle.delivery.specs.Effects.{IsFiled}
use Rattle.commands.specs.Gathering as gathering
use Rattle.commands.specs.Gathering.{Gathered, InputsOf}
use Rattle.delivery.specs.Judging as judging
use Rattle.delivery.specs.Judging.{HasSoundRows, objects, AreJudged, IsChecked}
use Rattle.delivery.specs.FiledTexts.{IsVerified}
use Rattle.delivery.specs.Rewriting as rewriting
use Rattle.delivery.specs.Rewriting.{canon_of, IsRewritten}
use Rattle.delivery.specs.Verifying as verifying
use Rattle.reports.specs.Verifications as verifications
use Rattle.delivery.specs.Verifying.{levels_of}
use Rattle.polygons.specs.Text as polygons
use Rattle.reports.specs.Outcomes.{Outcome, Filing, filed_text, verified}
use Rattle.reports.specs.declared.lines.AreaAnswer.{AreaAnswer}
use Rattle.reports.specs.declared.status.Status.TheVariants.{Accepted}
use Rattle.delivery.proofs.Agreement.{agree_filed}
use Rattle.delivery.proofs.AreaLemmas.{AreaLaws, answer_is_fault, answer_is_undecided, some_fault}
use Rattle.delivery.proofs.AreaLemmas.{surface_fault, some_undecided, by_answers, outcome_by}
use Rattle.delivery.proofs.AreaLemmas.{differ, neither, fault_is_fault}
use Rattle.commands.proofs.OneCommand.{one_command}

-- ---- one certificate for each area
one_certificate : (l : Layout) (a : AreaOf) (d : Plan) (x : AreaAnswer) (here : List Plain)
    → IsAnswer l a d x here → answer_is_fault x ≡ false → answer_is_undecided x ≡ false
    → (c : Plain) × (here ≡ c ∷ []) × IsCertificateOf l a d c
one_certificate l a d x here (faulty n h e z) f g =
    differ (answer_is_fault x) (ap answer_is_fault e ∙ fault_is_fault d n) f
one_certificate l a d x here (undecided i j h e z) f g =
    differ (answer_is_undecided x) (ap answer_is_undecided e) g
one_certificate l a d x here (proved c n h e z) f g = (
  c,
  z,
  record {
    named = n;
    proves = record {
      of = h.g;
      origin = h.origin;
      is_ground = h.right.is_ground;
      proves = h.proves;
    };
  },
)

certificates : (l : Layout) (as_ : List AreaOf) (ds : List Plan) (xs : List AreaAnswer)
    (cs : List Plain)
    → AreAnswers l as_ ds xs cs → some_fault xs ≡ false → some_undecided xs ≡ false
    → AreCertificatesOf l as_ ds cs
certificates l [] [] [] cs h f g = subst (AreCertificatesOf l [] []) (sym h) tt
certificates l [] [] (x ∷ xs) cs h f g = absurd h
certificates l [] (d ∷ ds) xs cs h f g = absurd h
certificates l (a ∷ as_) [] xs cs h f g = absurd h
certificates l (a ∷ as_) (d ∷ ds) [] cs h f g = absurd h
certificates l (a ∷ as_) (d ∷ ds) (x ∷ xs) cs h f g =
    let n = neither (answer_is_fault x) (some_fault xs) f in
    let m = neither (answer_is_undecided x) (some_undecided xs) g in
    let one = one_certificate l a d x h.0 h.2 n.0 m.0 in
    let whole : cs ≡ one.0 ∷ h.1 = h.4 ∙ ap (λ (here : List Plain). here ++ h.1) one.1 in
    subst (AreCertificatesOf l (a ∷ as_) (d ∷ ds)) (sym whole)
    (one.2, certificates l as_ ds xs h.1 h.3 n.1 m.1)

-- ---- what an accepted outcome is that writes to that file
record HasFiled (t : Task) (name : List ℕ) (g : Gathered) (o : Outcome) : Type 0 where
  layout : Layout
  text : List ℕ
  left : List ℕ
  read : g ≡ gathering.texts layout (text ∷ [])
  leaves : Leaves t layout text left
  filed : o.filing ≡ Some (record { name = name; text = left })

-- what is left of certificates and of polygons
left_by : (f : Filed) (l : Layout) (text : List ℕ) (cs : List Plain) (ps : List polygons.Plain)
    (a : AreCertified l text cs)
    → ArePolygonsFor f l a.drawings ps → LeavesFiled f l text (filed_text f cs ps)
left_by filed.Certificates l text cs ps a p = (cs, a, refl)
left_by (filed.Trial n) l text cs ps a p = (cs, a, refl)
left_by filed.Polygons l text cs ps a p = (
  ps,
  record {
    rows = a.rows;
    drawings = a.drawings;
    rows_of = a.rows_of;
    clean = a.clean;
    few = a.few;
    drawn = a.drawn;
    written = p;
  },
  refl,
)

status_of : (o p : Outcome) → o ≡ p → o.status ≡ Accepted → p.status ≡ Accepted
status_of o p e h = sym (ap (λ (x : Outcome). x.status) e) ∙ h

module _ (source : Source) (target : Target) (l : Layout) (text : List ℕ) (o : Outcome)
    (s : o.status ≡ Accepted) where
  filed_areas : HasSoundRows l text (λ rows. AreJudged target l rows o)
      → HasFiled (judges source target) target.name (gathering.texts l (text ∷ [])) o
  filed_areas (rows, t, k, b, j) =
      by (some_fault j.answers || surface_fault l j.surface_answers) (some_undecided j.answers)
      refl refl
    where
      by_kinds : Bool → Bool → Outcome
      by_kinds f g =
          outcome_by l (objects rows) target j.surface_answers j.answers j.certificates j.polygons
          f g

      by_bits : (f g : Bool) → (some_fault j.answers || surface_fault l j.surface_answers) ≡ f
          → some_undecided j.answers ≡ g → o ≡ by_kinds f g
      by_bits f g e h =
          j.is
          ∙ by_answers l (objects rows) target j.surface_answers j.drawings j.answers
          j.certificates j.polygons j.answered
          ∙ ap (λ (b : Bool). by_kinds b (some_undecided j.answers)) e
          ∙ ap (by_kinds f) h

      by : (f g : Bool) → (some_fault j.answers || surface_fault l j.surface_answers) ≡ f
          → some_undecided j.answers ≡ g
          → HasFiled (judges source target) target.name (gathering.texts l (text ∷ [])) o
      by true g e h = absurd (let q = status_of o _ (by_bits true g e h) s in cc)
      by false true e h = absurd (let q = status_of o _ (by_bits false true e h) s in cc)
      by false false e h = record {
        layout = l;
        text = text;
        left = filed_text target.filed j.certificates j.polygons;
        read = refl;
        leaves = left_by target.filed l text j.certificates j.polygons (record {
          rows = rows;
          drawings = j.drawings;
          rows_of = t;
          clean = k;
          few = b;
          drawn = j.drawn;
          proved = certificates l l.areas j.drawings j.answers j.certificates j.answered
              (neither (some_fault j.answers) (surface_fault l j.surface_answers) e).0 h;
          spelt = j.spelt;
        }) (j.bounded s);
        filed = ap (λ (x : Outcome). x.filing) (by_bits false false e h);
      }

  filed_check : IsChecked target l text o
      → HasFiled (judges source target) target.name (gathering.texts l (text ∷ [])) o
  filed_check (judging.at_fault n code h e) = absurd (let q = status_of o _ e s in cc)
  filed_check (judging.faulty rows t n e) = absurd (let q = status_of o _ e s in cc)
  filed_check (judging.oversized rows t k b e) = absurd (let q = status_of o _ e s in cc)
  filed_check (judging.sound h) = filed_areas h

filed_as : (source : Source) (target : Target) (name : List ℕ) (l : Layout) (text : List ℕ)
    (o : Outcome)
    → Some target.name ≡ Some name → IsChecked target l text o → o.status ≡ Accepted
    → HasFiled (judges source target) name (gathering.texts l (text ∷ [])) o
filed_as source target name l text o w k s =
    let e : target.name ≡ name = cc in
    subst (λ (x : List ℕ). HasFiled (judges source target) x (gathering.texts l (text ∷ [])) o) e
    (filed_check source target l text o s k)

-- and one whose canonical text is written
canon_filed : (source : Source) (file name : List ℕ) (l : Layout) (text : List ℕ) (o : Outcome)
    → Some file ≡ Some name → IsRewritten file l text o → o.status ≡ Accepted
    → HasFiled (rewrites source file) name (gathering.texts l (text ∷ [])) o
canon_filed source file name l text o w (rewriting.misread n code h e) s =
    absurd (let q = status_of o _ e s in cc)
canon_filed source file name l text o w (rewriting.without_text rows t k e) s =
    absurd (let q = status_of o _ e s in cc)
canon_filed source file name l text o w (rewriting.written rows t k e) s =
    let same : file ≡ name = cc in
    record {
      layout = l;
      text = text;
      left = canon_of l rows;
      read = refl;
      leaves = (rows, t, refl);
      filed = ap (λ (x : Outcome). x.filing) e
          ∙ ap (λ (n : List ℕ). Some (record { name = n; text = canon_of l rows })) same;
    }

filed_by : (t : Task) (name : List ℕ) (g : Gathered) (o : Outcome) → writes_to t ≡ Some name
    → HasOutcome t g o → o.status ≡ Accepted → HasFiled t name g o
filed_by t name (gathering.unread f) o w e s = absurd (let q = status_of o _ e s in cc)
filed_by t name (gathering.too_long f) o w e s = absurd (let q = status_of o _ e s in cc)
filed_by t name (gathering.refused r) o w e s = absurd (let q = status_of o _ e s in cc)
filed_by (judges r target) name (gathering.texts l (text ∷ [])) o w k s =
    filed_as r target name l text o w k s
filed_by (rewrites r file) name (gathering.texts l (text ∷ [])) o w k s =
    canon_filed r file name l text o w k s
filed_by lists name (gathering.texts l ts) o w k s = absurd (cc)
filed_by (verifies r f) name (gathering.texts l ts) o w k s = absurd (cc)
filed_by (tests_points r f) name (gathering.texts l ts) o w k s = absurd (cc)
filed_by t name (gathering.texts l ts) o w k s = absurd k

pub certifies : (held : Option Files) (counted : List ℕ → Type 0) (words : List (List ℕ))
    (o : Outcome) (new : Option Files)
    → CallOutcome held counted words o → o.status ≡ Accepted → IsFiled o.filing held new
    → Certifies held counted words new
certifies held counted words o new (without_command u e) s f c name i w = absurd (u c i)
certifies held counted words o new (with_command d g j h a) s f c name i w =
    let q = one_command words d c j i in
    let n = filed_by (task_of c) name g o w
    (subst (λ (x : Command). HasOutcome (task_of x) g o) q a) s in (
      n.layout,
      n.text,
      n.left,
      subst (InputsOf held counted c) n.read
          (subst (λ (x : Command). InputsOf held counted x g) q h),
      n.leaves,
      subst (λ (x : Option Filing). IsFiled x held new) n.filed f,
    )

-- ---- what is left is verified
all_said : (cs : List Plain) → AllByRecursion (λ (c : Plain). CanSay Two c.bent) cs
all_said [] = tt
all_said (c ∷ cs) = (tt, all_said cs)

-- the text that is written spells its list
own_text : (cs : List Plain) → Spells (spelling cs) cs
own_text cs = record { version = Two; said = all_said cs; is = refl }

pub verified_again : AreaLaws → (l : Layout) (text : List ℕ) (cs : List Plain) (o : Outcome)
    → AreCertified l text cs → IsVerified l text (spelling cs) o → o.status ≡ Accepted
verified_again laws l text cs o a h =
    let v = verifications.proved (levels_of cs) in
    let p = verified l (objects a.rows) a.drawings v in
    let again : IsVerified l text (spelling cs) p =
    judging.sound (
      a.rows,
      a.rows_of,
      a.clean,
      a.few,
      record {
        drawings = a.drawings;
        verification = v;
        drawn = a.drawn;
        judged = verifying.all_proved cs (record {
          spelt = a.spelt;
          spells = own_text cs;
        }) a.proved refl;
        is = refl;
      },
    ) in
    (agree_filed laws l text (spelling cs) o p h again).status
