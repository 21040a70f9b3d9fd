-- Two outcomes of the words and the files agree, unless a file could not be read.
use Rattle.std.proofs.Common.{◌≡◌, ℕ, true, false, List, [], ◌∷◌, ◌++◌, length, Option, Some, None}
use Rattle.std.proofs.Common.{refl, ap, sym, ◌∙◌, subst, inl, inr, arith}
use Rattle.std.specs.Prelude.{◌≢◌, ◌⊎◌, ⊤}
use Rattle.ports.specs.Files.{Files}
use Rattle.ports.specs.Output.{Adds}
use Rattle.itf_reader.proofs.Readings.{one_transfer, one_refusal as one_fault, never_both}
use Rattle.itf_reader.specs.Forms.{Row}
use Rattle.itf_reader.specs.Layouts.{form_of}
use Rattle.itf_reader.specs.Readings.{Structure}
use Rattle.table_layout.specs.Layouts.{Layout}
use Rattle.commands.specs.declared.files.File.{File}
use Rattle.reports.specs.declared.status.Status.{Status}
use Rattle.reports.specs.declared.status.Status.TheVariants.{Accepted, ReadFault, WriteFault}
use Rattle.delivery.specs.Answers.{GathersFor, HoldsOfTexts, Agree, AgreeUnlessUnread, Answers}
use Rattle.delivery.specs.Answers.{IsStopped}
use Rattle.delivery.specs.Answers.{IsAnswer}
use Rattle.delivery.specs.AreaAnswers.{AreAnswers}
use Rattle.delivery.specs.Verifying.{IsVerification}
use Rattle.plane.specs.Rule.Plans.{Plan}
use Rattle.area_drawings.proofs.Windows.{same_drawings}
use Rattle.commands.specs.Commands.{Command, Source, Target, Task, lists, judges, verifies}
use Rattle.commands.specs.Commands.{rewrites, tests_points, task_of, from_file, made, limit_of}
use Rattle.commands.specs.Commands.{model_of, further_files, IsCommand}
use Rattle.delivery.specs.Deciding.{CallOutcome, without_command, with_command}
use Rattle.area_drawings.specs.AreaLimits.{has_too_large}
use Rattle.area_links.specs.Rules.{Rule, links_of}
use Rattle.std.specs.Prelude.{Err, Ok, Result}
use Rattle.delivery.specs.Links.{AreLinked, AreTestedBy, bad, tested}
use Rattle.delivery.proofs.LinkedOutcomes.{agree_by_rules}
use Rattle.delivery.specs.FiledTexts.{AreVerified, IsVerified}
use Rattle.commands.specs.Gathering as gathering
use Rattle.commands.specs.Gathering.{Gathered, Reads, ReadsAll, Compiles, InputsOf}
use Rattle.delivery.specs.Causes.{HasOutcome}
use Rattle.delivery.specs.Judging.{lines_of, findings, objects, IsMalformed, IsTextOf, IsClean}
use Rattle.delivery.specs.Judging.{AreJudged, IsJudgedBy, at_fault, faulty, oversized, sound}
use Rattle.delivery.specs.Judging.{IsChecked}
use Rattle.commands.specs.ModelTexts.{Refusal, IsRefused, HasLayout}
use Rattle.reports.specs.Outcomes.{bad_link, Outcome, filed_text, malformed, rejected}
use Rattle.reports.specs.Outcomes.{areas_outcome}
use Rattle.reports.specs.Outcomes.{verified, canonical, report_of}
use Rattle.delivery.specs.Rewriting.{canon_of, IsRewritten, misread, without_text, written}
use Rattle.commands.specs.Reading.{IsWhole, IsLonger}
use Rattle.delivery.proofs.AreaLemmas.{AreaLaws, same_certificates, same_lines, areas_agree}
use Rattle.delivery.proofs.WrittenAreas.{one_text as one_polygons}
use Rattle.delivery.specs.AreaPolygons.{ArePolygonsFor}
use Rattle.certificate.specs.Spelling.{Plain, spelling}
use Rattle.commands.specs.declared.task.Filed.{Filed}
use Rattle.commands.specs.declared.task.Filed.TheVariants as filed
use Rattle.polygons.specs.Text as polygons
use Rattle.delivery.proofs.Causes.{by_write}
use Rattle.commands.proofs.OneCommand.{one_command}
use Rattle.commands.proofs.ModelTextLemmas.{one_layout, one_refusal, not_refused}

-- ---- an outcome agrees with itself
agrees_itself : (o : Outcome) → Agree o o
agrees_itself o = record { status = refl; lines = same_lines o.lines; filings = refl }

agree_same : (o p : Outcome) → o ≡ p → Agree o p
agree_same o p e = subst (Agree o) e (agrees_itself o)

-- ---- what is filed for a target
same_text : (f : Filed) (l : Layout) (ds : List Plan) (cs es : List Plain)
    (ps qs : List polygons.Plain)
    → cs ≡ es → ArePolygonsFor f l ds ps → ArePolygonsFor f l ds qs
    → filed_text f cs ps ≡ filed_text f es qs
same_text filed.Certificates l ds cs es ps qs e h k = ap spelling e
same_text (filed.Trial n) l ds cs es ps qs e h k = ap spelling e
same_text filed.Polygons l ds cs es ps qs e h k =
    ap polygons.polygons_text (one_polygons l l.areas ds ps qs h k)

-- ---- a file has one text, and this is within its limit or not
one_text : (files : Files) (name : List ℕ) (limit : ℕ) (a b : List ℕ)
    → IsWhole (Some files) name limit a → IsWhole (Some files) name limit b → a ≡ b
one_text files name limit a b h k = let e = sym h.0 ∙ k.0 in cc

not_longer : (files : Files) (name : List ℕ) (limit : ℕ) (a : List ℕ)
    → IsWhole (Some files) name limit a → IsLonger (Some files) name limit → ⊥
not_longer files name limit a h k =
    let q = sym h.0 ∙ k.1 in
    let e : a ≡ k.0 = cc in
    absurd (omega (arith, ap length e, h.1, k.2))

-- ---- one thing is read of the files, unless one of them could not be
abbrev pub IsUnread : Gathered → Type 0
IsUnread (gathering.unread f) = ⊤
IsUnread _ = ⊥

is_unread : (g : Gathered) (f : File) → g ≡ gathering.unread f → IsUnread g
is_unread g f e = subst IsUnread (sym e) tt

abbrev pub Same : Gathered → Gathered → Type 0
Same g h = IsUnread g ⊎ (IsUnread h ⊎ (g ≡ h))

module _ (files : Files) (far near : List ℕ → Type 0) where
  module _ (f : File) (name : List ℕ) (g h : Gathered) (P Q : List ℕ → Type 0)
      (one : (text : List ℕ) → P text → Q text → Same g h) where
    text_after : (text : List ℕ) → IsWhole (Some files) name (limit_of f) text → P text
        → Reads (Some files) near (from_file f name) h Q → Same g h
    text_after text w p k = elim k as (λ z. Same g h) [
      | inl n ↦ inr (inl (is_unread h f n.1))
      | inr n ↦ elim n as (λ z. Same g h) [
        | inl m ↦ absurd (not_longer files name (limit_of f) text w m.0)
        | inr m ↦ one text p (subst Q (one_text files name (limit_of f) m.0 text m.1 w) m.2)
      ]
    ]

    long_after : IsLonger (Some files) name (limit_of f) → g ≡ gathering.too_long f
        → Reads (Some files) near (from_file f name) h Q → Same g h
    long_after l e k = elim k as (λ z. Same g h) [
      | inl n ↦ inr (inl (is_unread h f n.1))
      | inr n ↦ elim n as (λ z. Same g h) [
        | inl m ↦ inr (inr (e ∙ sym m.1))
        | inr m ↦ absurd (not_longer files name (limit_of f) m.0 m.1 l)
      ]
    ]

    same_file : Reads (Some files) far (from_file f name) g P
        → Reads (Some files) near (from_file f name) h Q → Same g h
    same_file r k = elim r as (λ z. Same g h) [
      | inl n ↦ inl (is_unread g f n.1)
      | inr n ↦ elim n as (λ z. Same g h) [
        | inl m ↦ long_after m.0 m.1 k
        | inr m ↦ text_after m.0 m.1 m.2 k
      ]
    ]

  same_read : (s : Source) (g h : Gathered) (P Q : List ℕ → Type 0)
      → ((text : List ℕ) → P text → Q text → Same g h) → Reads (Some files) far s g P
      → Reads (Some files) near s h Q → Same g h
  same_read (from_file f name) g h P Q one r k = same_file f name g h P Q one r k
  same_read (made text) g h P Q one r k = one text r k

  same_all : (l : Layout) (before : List (List ℕ)) (ss : List Source) (g h : Gathered)
      → ReadsAll (Some files) far l before ss g → ReadsAll (Some files) near l before ss h
      → Same g h
  same_all l before [] g h r k = inr (inr (r ∙ sym k))
  same_all l before (s ∷ ss) g h r k =
      same_read s g h (λ text. ReadsAll (Some files) far l (before ++ (text ∷ [])) ss g)
      (λ text. ReadsAll (Some files) near l (before ++ (text ∷ [])) ss h)
      (λ text p q. same_all l (before ++ (text ∷ [])) ss g h p q) r k

  module _ (t : Task) (text : List ℕ) (g h : Gathered) where
    refused_after : (r : Refusal) → IsRefused text r → g ≡ gathering.refused r
        → Compiles (Some files) near t text h → Same g h
    refused_after r i e k = elim k as (λ z. Same g h) [
      | inl n ↦ inr (inr (e ∙ ap gathering.refused (one_refusal text r n.0 i n.1) ∙ sym n.2))
      | inr n ↦ absurd (not_refused text n.0 r n.1 i)
    ]

    laid_after : (l : Layout) → HasLayout text l
        → ReadsAll (Some files) far l [] (further_files t) g → Compiles (Some files) near t text h
        → Same g h
    laid_after l i r k = elim k as (λ z. Same g h) [
      | inl n ↦ absurd (not_refused text l n.0 i n.1)
      | inr n ↦ same_all n.0 [] (further_files t) g h
          (subst (λ (x : Layout). ReadsAll (Some files) far x [] (further_files t) g)
          (one_layout text l n.0 i n.1) r) n.2
    ]

    same_compiled : Compiles (Some files) far t text g → Compiles (Some files) near t text h
        → Same g h
    same_compiled r k = elim r as (λ z. Same g h) [
      | inl n ↦ refused_after n.0 n.1 n.2 k
      | inr n ↦ laid_after n.0 n.1 n.2 k
    ]

  pub same_gathered : (c : Command) (g h : Gathered) → InputsOf (Some files) far c g
      → InputsOf (Some files) near c h → Same g h
  same_gathered c g h r k =
      same_read (model_of c) g h (λ text. Compiles (Some files) far (task_of c) text g)
      (λ text. Compiles (Some files) near (task_of c) text h)
      (λ text p q. same_compiled (task_of c) text g h p q) r k

-- ---- what passes a test and what else is read
-- the texts that were read pass it
abbrev PassesIn : (Task → Layout → List (List ℕ) → Type 0) → Task → Gathered → Type 0
PassesIn P t (gathering.texts l ts) = P t l ts
PassesIn P t _ = ⊥

module _ (P : Task → Layout → List (List ℕ) → Type 0) (files : Files) (far near : List ℕ → Type 0)
    (words : List (List ℕ)) (p : HoldsOfTexts (Some files) far words P) where
  reads_too : (h : Gathered) (c : Command) → IsCommand words c → InputsOf (Some files) near c h
      → IsUnread h ⊎ PassesIn P (task_of c) h
  reads_too h c i k =
      let e = one_command words p.0 c p.3 i in
      let g = gathering.texts p.1 p.2 in
      elim (same_gathered files far near c g h
      (subst (λ (x : Command). InputsOf (Some files) far x g) e p.4) k) as
      (λ z. IsUnread h ⊎ PassesIn P (task_of c) h) [
        | inl u ↦ absurd u
        | inr n ↦ elim n as (λ z. IsUnread h ⊎ PassesIn P (task_of c) h) [
          | inl u ↦ inl u
          | inr r ↦ inr
              (subst (PassesIn P (task_of c)) r
              (subst (λ (x : Command). PassesIn P (task_of x) g) e p.5))
        ]
      ]

  -- two tests that are passed are passed by the same texts
  pub both_pass : (Q : Task → Layout → List (List ℕ) → Type 0)
      → HoldsOfTexts (Some files) near words Q
      → (t : Task) × (l : Layout) × (ts : List (List ℕ)) × P t l ts × Q t l ts
  both_pass Q q =
      elim (reads_too (gathering.texts q.1 q.2) q.0 q.3 q.4) as
      (λ z. (t : Task) × (l : Layout) × (ts : List (List ℕ)) × P t l ts × Q t l ts) [
        | inl u ↦ absurd u
        | inr r ↦ (task_of q.0, q.1, q.2, r, q.5)
      ]

  pub never_refused : (r : Refusal) → GathersFor (Some files) near words (gathering.refused r) → ⊥
  never_refused r k =
      elim (reads_too (gathering.refused r) k.0 k.1 k.2) as (λ z. ⊥) [ inl u ↦ u | inr n ↦ n ]

  pub never_too_long : (f : File) → GathersFor (Some files) near words (gathering.too_long f) → ⊥
  never_too_long f k =
      elim (reads_too (gathering.too_long f) k.0 k.1 k.2) as (λ z. ⊥) [ inl u ↦ u | inr n ↦ n ]

-- ---- outcomes of what is read agree
differ : true ≡ false → ⊥
differ e = cc

agree_both : (o p q : Outcome) → o ≡ q → p ≡ q → Agree o p
agree_both o p q e f = agree_same o p (e ∙ sym f)

unread_status : (t : Task) (g : Gathered) (o : Outcome) → IsUnread g → HasOutcome t g o
    → o.status ≡ ReadFault
unread_status t (gathering.unread f) o u e = ap (λ (x : Outcome). x.status) e
unread_status t (gathering.too_long f) o u e = absurd u
unread_status t (gathering.refused r) o u e = absurd u
unread_status t (gathering.texts l ts) o u e = absurd u

-- two outcomes of one text agree where those of its areas do
module _ (l : Layout) (text : List ℕ) (Areas : List (List Row) → Outcome → Type 0)
    (areas : (rows : List (List Row)) (o p : Outcome) → Areas rows o → Areas rows p
    → Agree o p) where
  one_rows : (t u : List (List Row)) → IsTextOf l text t → IsTextOf l text u → t ≡ u
  one_rows t u h k = one_transfer (form_of l) (lines_of l text).lines t u h.1 k.1

  never_at_fault : (rows : List (List Row)) (n : ℕ) (code : Structure) → IsMalformed l text n code
      → IsTextOf l text rows → ⊥
  never_at_fault rows n code h t = never_both (form_of l) (lines_of l text) rows n code t h

  agree_judged : (o p : Outcome) → IsJudgedBy l text Areas o → IsJudgedBy l text Areas p → Agree o p
  agree_judged o p (at_fault n c h e) (at_fault m d k f) =
      let q = one_fault (form_of l) (lines_of l text) n m c d h k in
      agree_same o p (e ∙ ap (λ (x : ℕ). malformed x c) q.0 ∙ ap (malformed m) q.1 ∙ sym f)
  agree_judged o p (at_fault n c h e) (faulty rows t m f) = absurd (never_at_fault rows n c h t)
  agree_judged o p (at_fault n c h e) (oversized rows t k b f) =
      absurd (never_at_fault rows n c h t)
  agree_judged o p (at_fault n c h e) (sound k) = absurd (never_at_fault k.0 n c h k.1)
  agree_judged o p (faulty rows t n e) (at_fault m d k f) = absurd (never_at_fault rows m d k t)
  agree_judged o p (faulty rows t n e) (faulty more u m f) =
      agree_both o p _ e (f
      ∙ ap (λ (r : List (List Row)). rejected (findings l r)) (one_rows more rows u t))
  agree_judged o p (faulty rows t n e) (oversized more u k b f) =
      absurd (n (subst (IsClean l) (one_rows more rows u t) k))
  agree_judged o p (faulty rows t n e) (sound k) =
      absurd (n (subst (IsClean l) (one_rows k.0 rows k.1 t) k.2))
  agree_judged o p (oversized rows t k b e) (at_fault m d h f) =
      absurd (never_at_fault rows m d h t)
  agree_judged o p (oversized rows t k b e) (faulty more u m f) =
      absurd (m (subst (IsClean l) (one_rows rows more t u) k))
  agree_judged o p (oversized rows t k b e) (oversized more u m d f) = agree_both o p _ e f
  agree_judged o p (oversized rows t k b e) (sound h) =
      absurd (differ (sym b
      ∙ ap (λ (r : List (List Row)). has_too_large r l.areas) (one_rows rows h.0 t h.1) ∙ h.3))
  agree_judged o p (sound h) (at_fault m d k f) = absurd (never_at_fault h.0 m d k h.1)
  agree_judged o p (sound h) (faulty more u m f) =
      absurd (m (subst (IsClean l) (one_rows h.0 more h.1 u) h.2))
  agree_judged o p (sound h) (oversized more u k b f) =
      absurd (differ (sym b
      ∙ ap (λ (r : List (List Row)). has_too_large r l.areas) (one_rows more h.0 u h.1) ∙ h.3))
  agree_judged o p (sound h) (sound k) =
      areas k.0 o p (subst (λ (r : List (List Row)). Areas r o) (one_rows h.0 k.0 h.1 k.1) h.4) k.4

-- a transfer that is written in its canonical text
module _ (name : List ℕ) (l : Layout) (text : List ℕ) where
  same_rows : (a b : List (List Row)) → IsTextOf l text a → IsTextOf l text b → a ≡ b
  same_rows a b h k = one_transfer (form_of l) (lines_of l text).lines a b h.1 k.1

  no_misread : (rows : List (List Row)) (n : ℕ) (code : Structure) → IsMalformed l text n code
      → IsTextOf l text rows → ⊥
  no_misread rows n code h t = never_both (form_of l) (lines_of l text) rows n code t h

  agree_rewritten : (o p : Outcome) → IsRewritten name l text o → IsRewritten name l text p
      → Agree o p
  agree_rewritten o p (misread n c h e) (misread m d k f) =
      let q = one_fault (form_of l) (lines_of l text) n m c d h k in
      agree_same o p (e ∙ ap (λ (x : ℕ). malformed x c) q.0 ∙ ap (malformed m) q.1 ∙ sym f)
  agree_rewritten o p (misread n c h e) (without_text rows t k f) = absurd (no_misread rows n c h t)
  agree_rewritten o p (misread n c h e) (written rows t k f) = absurd (no_misread rows n c h t)
  agree_rewritten o p (without_text rows t k e) (misread n c h f) = absurd (no_misread rows n c h t)
  agree_rewritten o p (without_text rows t k e) (without_text more u m f) = agree_both o p _ e f
  agree_rewritten o p (without_text rows t k e) (written more u m f) = absurd (m k)
  agree_rewritten o p (written rows t k e) (misread n c h f) = absurd (no_misread rows n c h t)
  agree_rewritten o p (written rows t k e) (without_text more u m f) = absurd (k m)
  agree_rewritten o p (written rows t k e) (written more u m f) =
      agree_both o p _ e (f
      ∙ ap (λ (r : List (List Row)). canonical name (objects r) (canon_of l r))
      (same_rows more rows u t))

module _ (laws : AreaLaws) where
  agree_areas : (target : Target) (l : Layout) (rows : List (List Row)) (o p : Outcome)
      → AreJudged target l rows o → AreJudged target l rows p → Agree o p
  agree_areas target l rows o p j k =
      let same = same_drawings l rows l.areas j.drawings k.drawings j.drawn k.drawn in
      let here = subst (λ (ds : List Plan). AreAnswers l l.areas ds j.answers j.certificates) same
      j.answered in
      let texts : (areas_outcome l (objects rows) target j.surface_answers j.answers j.certificates
      j.polygons).status ≡ Accepted
      → (areas_outcome l (objects rows) target k.surface_answers k.answers k.certificates
      k.polygons).status ≡ Accepted
      → filed_text target.filed j.certificates j.polygons
      ≡ filed_text target.filed k.certificates k.polygons
      = λ f g.
      same_text target.filed l k.drawings j.certificates k.certificates j.polygons k.polygons
      (same_certificates laws l l.areas k.drawings j.answers k.answers j.certificates k.certificates
      here k.answered)
      (subst (λ (ds : List Plan). ArePolygonsFor target.filed l ds j.polygons) same
      (j.bounded (ap (λ (x : Outcome). x.status) j.is ∙ f)))
      (k.bounded (ap (λ (x : Outcome). x.status) k.is ∙ g)) in
      subst (λ (x : Outcome). Agree x p) (sym j.is)
      (subst (Agree
      (areas_outcome l (objects rows) target j.surface_answers j.answers j.certificates
      j.polygons)) (sym k.is)
      (areas_agree laws l (objects rows) target rows j.surface_answers k.surface_answers
      j.surfaces_answered k.surfaces_answered k.drawings j.answers k.answers j.certificates
      k.certificates j.polygons k.polygons
      texts here k.answered))

  agree_verified : (l : Layout) (filed : List ℕ) (rows : List (List Row)) (o p : Outcome)
      → AreVerified l filed rows o → AreVerified l filed rows p → Agree o p
  agree_verified l filed rows o p j k =
      agree_same o p
      (j.is ∙ ap (λ (ds : List Plan). verified l (objects rows) ds j.verification)
      (same_drawings l rows l.areas j.drawings k.drawings j.drawn k.drawn)
      ∙ ap (verified l (objects rows) k.drawings)
      (laws.verifications l k.drawings filed j.verification k.verification
      (subst (λ (ds : List Plan). IsVerification l ds filed j.verification)
      (same_drawings l rows l.areas j.drawings k.drawings j.drawn k.drawn) j.judged) k.judged)
      ∙ sym k.is)

  agree_links : (l : Layout) (links : List ℕ) (rows : List (List Row)) (o p : Outcome)
      → AreLinked l links rows o → AreLinked l links rows p → Agree o p
  agree_links l links rows o p (bad n e q) (bad m f r) =
      agree_same o p (q ∙ (ap bad_link (same_bad (links_of l links) n m e f) ∙ sym r))
    where
      same_bad : (r : Result (List Rule) ℕ) (n m : ℕ) → r ≡ Err n → r ≡ Err m → n ≡ m
      same_bad r n m e f = cc
  agree_links l links rows o p (bad n e q) (tested rules f k) =
      absurd (let x = sym e ∙ f in cc)
  agree_links l links rows o p (tested rules e j) (bad m f r) =
      absurd (let x = sym e ∙ f in cc)
  agree_links l links rows o p (tested rules e j) (tested more f k) =
      agree_by_rules laws l rows rules o p j
      (subst (λ (rs : List Rule). AreTestedBy l rs rows p)
      (same_rules (links_of l links) more rules f e) k)
    where
      same_rules : (r : Result (List Rule) ℕ) (a b : List Rule) → r ≡ Ok a → r ≡ Ok b → a ≡ b
      same_rules r a b e f = cc

  agree_text : (target : Target) (l : Layout) (text : List ℕ) (o p : Outcome)
      → IsChecked target l text o → IsChecked target l text p → Agree o p
  agree_text target l text = agree_judged l text (AreJudged target l) (agree_areas target l)

  pub agree_filed : (l : Layout) (text filed : List ℕ) (o p : Outcome) → IsVerified l text filed o
      → IsVerified l text filed p → Agree o p
  agree_filed l text filed = agree_judged l text (AreVerified l filed) (agree_verified l filed)

  agree_amount : (t : Task) (g : Gathered) (o p : Outcome) → HasOutcome t g o → HasOutcome t g p
      → Agree o p
  agree_amount t (gathering.unread f) o p h k = agree_both o p _ h k
  agree_amount t (gathering.too_long f) o p h k = agree_both o p _ h k
  agree_amount t (gathering.refused r) o p h k = agree_both o p _ h k
  agree_amount lists (gathering.texts l ts) o p h k = agree_both o p _ h k
  agree_amount (judges s target) (gathering.texts l (text ∷ [])) o p h k =
      agree_text target l text o p h k
  agree_amount (verifies s r) (gathering.texts l (text ∷ filed ∷ [])) o p h k =
      agree_filed l text filed o p h k
  agree_amount (rewrites s name) (gathering.texts l (text ∷ [])) o p h k =
      agree_rewritten name l text o p h k
  agree_amount (tests_points s r) (gathering.texts l (text ∷ links ∷ [])) o p h k =
      agree_judged l text (AreLinked l links) (agree_links l links) o p h k
  agree_amount t (gathering.texts l ts) o p h k = absurd h

  files_agree : (t : Task) (g h : Gathered) (o p : Outcome) → Same g h → HasOutcome t g o
      → HasOutcome t h p → AgreeUnlessUnread o p
  files_agree t g h o p s a b = elim s as (λ z. AgreeUnlessUnread o p) [
    | inl u ↦ inl (unread_status t g o u a)
    | inr n ↦ elim n as (λ z. AgreeUnlessUnread o p) [
      | inl u ↦ inr (inl (unread_status t h p u b))
      | inr e ↦ inr (inr (agree_amount t h o p (subst (λ (x : Gathered). HasOutcome t x o) e a) b))
    ]
  ]

  pub outcomes_agree : (files : Files) (far near : List ℕ → Type 0) (words : List (List ℕ))
      (o p : Outcome)
      → CallOutcome (Some files) far words o → CallOutcome (Some files) near words p
      → AgreeUnlessUnread o p
  outcomes_agree files far near words o p (without_command u a) (without_command v b) =
      inr (inr (agree_same o p (a ∙ sym b)))
  outcomes_agree files far near words o p (without_command u a) (with_command d h j y b) =
      absurd (u d j)
  outcomes_agree files far near words o p (with_command c g i x a) (without_command v b) =
      absurd (v c i)
  outcomes_agree files far near words o p (with_command c g i x a) (with_command d h j y b) =
      let e = one_command words c d i j in
      files_agree (task_of d) g h o p
      (same_gathered files far near d g h
      (subst (λ (z : Command). InputsOf (Some files) far z g) e x) y)
      (subst (λ (z : Command). HasOutcome (task_of z) g o) e a) b

-- an answer that is that of an outcome unless a write failed is that of each outcome, as far as
-- they agree
pub exactly : (held : Option Files) (far near : List ℕ → Type 0) (words : List (List ℕ))
    (p : Outcome) (s : Status) (before after : Option (List ℕ))
    → ((files : Files) (x y : Outcome) → CallOutcome (Some files) far words x
    → CallOutcome (Some files) near words y → AgreeUnlessUnread x y)
    → CallOutcome held near words p
    → (s ≢ WriteFault → s ≡ p.status) → (s ≢ WriteFault → Adds before (report_of p) after)
    → (files : Files) → held ≡ Some files → (o : Outcome) → CallOutcome (Some files) far words o
    → IsAnswer o s before after
exactly held far near words p s before after agree k e r files t o h read =
    by_write (Answers o s before after ⊎ IsStopped s) s (λ w. inr (inr (inl w)))
    (λ n. elim (agree files o p h (subst (λ (x : Option Files). CallOutcome x near words p) t k)) as
    (λ z. Answers o s before after ⊎ IsStopped s) [
      | inl u ↦ absurd (read u)
      | inr m ↦ elim m as (λ z. Answers o s before after ⊎ IsStopped s) [
        | inl u ↦ inr (inl (e n ∙ u))
        | inr a ↦ inl (record { outcome = p; agrees = a; answered = e n; reported = r n })
      ]
    ])
