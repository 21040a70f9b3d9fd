-- The outcome of links by what is answered, and that two outcomes of one text agree.
use Rattle.std.proofs.Common.{◌≡◌, ℕ, Bool, true, false, ◌&&◌, ◌||◌, List, [], ◌∷◌, ◌++◌, None}
use Rattle.std.proofs.Common.{length, refl, sym, ap, ◌∙◌, subst}
use Rattle.std.specs.Prelude.{if◌then◌else◌}
use Rattle.std.proofs.lemmas.List.Folds.{list_any-append}
use Rattle.area_drawings.proofs.Windows.{same_drawings}
use Rattle.area_links.specs.Rules.{Rule}
use Rattle.certificate.specs.Spelling.{Plain}
use Rattle.itf_reader.specs.Forms.{Row}
use Rattle.plane.specs.Rule.Plans.{Plan}
use Rattle.table_layout.specs.Layouts.{Layout}
use Rattle.reports.specs.Kinds.{answer_kind, are_fine, has_fault, has_undecided, is_fault, is_fine}
use Rattle.reports.specs.Kinds.{is_undecided, kind_of}
use Rattle.reports.specs.Lines as lines
use Rattle.reports.specs.Lines.{Line}
use Rattle.reports.specs.Outcomes.{Misplaced, Outcome, accepted_with, judged_lines}
use Rattle.reports.specs.Outcomes.{link_lines, linked, reported, unfiled_outcome, with_verdict}
use Rattle.reports.specs.Surfaces.{surfaces}
use Rattle.reports.specs.declared.lines.AreaAnswer.{AreaAnswer}
use Rattle.reports.specs.declared.kinds.Kind.{Kind}
use Rattle.reports.specs.declared.kinds.Kind.TheVariants.{Fault, Undecided, Fine}
use Rattle.reports.specs.declared.lines.SurfaceAnswer.{SurfaceAnswer}
use Rattle.reports.specs.declared.lines.Verdict.TheVariants as verdict
use Rattle.reports.specs.declared.status.Status.TheVariants as status
use Rattle.delivery.specs.Answers.{Agree, same}
use Rattle.delivery.specs.AreaAnswers.{AreAnswers}
use Rattle.delivery.specs.Judging.{objects as objects_of}
use Rattle.delivery.specs.Links.{AreTested, AreTestedBy, pair_count}
use Rattle.delivery.specs.Surfaces.{AreSurfaceAnswers}
use Rattle.delivery.proofs.AreaLemmas.{AreaLaws, accepted_lines, answer_is_fault}
use Rattle.delivery.proofs.AreaLemmas.{answer_is_undecided, judged_agree, judged_fault}
use Rattle.delivery.proofs.AreaLemmas.{judged_undecided, neither, same_faults, same_left}
use Rattle.delivery.proofs.AreaLemmas.{some_fault, some_undecided, surface_fault}
use Rattle.delivery.proofs.HeldLinks.{one_tested, some_misplaced}
use Rattle.delivery.proofs.SurfaceLemmas.{same_faults as same_surface_faults}

-- ---- answers that name nothing
fine_kind : (k : Kind) → is_fault k ≡ false → is_undecided k ≡ false → is_fine k ≡ true
fine_kind Fault f g = absurd (cc)
fine_kind Undecided f g = absurd (cc)
fine_kind Fine f g = refl

pub fine_all : (xs : List AreaAnswer) → some_fault xs ≡ false → some_undecided xs ≡ false
    → are_fine xs ≡ true
fine_all [] f g = refl
fine_all (x ∷ xs) f g =
    let a = neither (answer_is_fault x) (some_fault xs) f in
    let b = neither (answer_is_undecided x) (some_undecided xs) g in
    ap (λ (c : Bool). c && are_fine xs) (fine_kind (answer_kind x) a.0 b.0)
    ∙ fine_all xs a.1 b.1

-- ---- the outcome by what is answered
module _ (l : Layout) (objects : ℕ) (ss : List SurfaceAnswer) (xs : List AreaAnswer)
    (ms : List Misplaced) (rules pairs : ℕ) where
  abbrev all_lines : List Line
  all_lines = judged_lines l ss xs ++ link_lines ms rules pairs

  -- where nothing is at fault or undecided; f: some pair is misplaced
  abbrev pub tested_by : Bool → Outcome
  tested_by f =
      if f
      then reported status.Rejected (with_verdict all_lines verdict.Rejected)
      else accepted_with all_lines objects None

  -- b: something is at fault; c: something is undecided
  abbrev pub linked_by : Bool → Bool → Bool → Outcome
  linked_by b c f =
      if b
      then reported status.Rejected (with_verdict (judged_lines l ss xs) verdict.Rejected)
      else if c
      then reported status.Undecided (with_verdict (judged_lines l ss xs) verdict.Undecided)
      else tested_by f

  abbrev by_bits : List Line → Bool → Bool → Outcome → Outcome
  by_bits ls b c o =
      if b
      then reported status.Rejected (with_verdict ls verdict.Rejected)
      else if c
      then reported status.Undecided (with_verdict ls verdict.Undecided)
      else o

  link_fault : (ns : List Misplaced) → has_fault (link_lines ns rules pairs) ≡ some_misplaced ns
  link_fault [] = refl
  link_fault (n ∷ ns) = refl

  link_undecided : (ns : List Misplaced) → has_undecided (link_lines ns rules pairs) ≡ false
  link_undecided [] = refl
  link_undecided (n ∷ ns) = link_undecided ns

  tested_is : has_fault (judged_lines l ss xs) ≡ false
      → has_undecided (judged_lines l ss xs) ≡ false
      → unfiled_outcome all_lines objects ≡ tested_by (some_misplaced ms)
  tested_is f g =
      let fault : has_fault all_lines ≡ some_misplaced ms =
      list_any-append (λ (k : Line). is_fault (kind_of k)) (judged_lines l ss xs)
      (link_lines ms rules pairs)
      ∙ (ap (λ (b : Bool). b || has_fault (link_lines ms rules pairs)) f ∙ link_fault ms) in
      let left : has_undecided all_lines ≡ false =
      list_any-append (λ (k : Line). is_undecided (kind_of k)) (judged_lines l ss xs)
      (link_lines ms rules pairs)
      ∙ (ap (λ (b : Bool). b || has_undecided (link_lines ms rules pairs)) g
      ∙ link_undecided ms) in
      ap (λ (b : Bool). by_bits all_lines b (has_undecided all_lines)
      (accepted_with all_lines objects None)) fault
      ∙ ap (λ (c : Bool). by_bits all_lines (some_misplaced ms) c
      (accepted_with all_lines objects None)) left

  linked_is_by : (b c : Bool) → has_fault (judged_lines l ss xs) ≡ b
      → has_undecided (judged_lines l ss xs) ≡ c
      → by_bits (judged_lines l ss xs) b c (unfiled_outcome all_lines objects)
      ≡ linked_by b c (some_misplaced ms)
  linked_is_by true c f g = refl
  linked_is_by false true f g = refl
  linked_is_by false false f g = tested_is f g

  pub linked_is : (ds : List Plan) (cs : List Plain) → AreAnswers l l.areas ds xs cs
      → linked l objects ss xs ms rules pairs
      ≡ linked_by (some_fault xs || surface_fault l ss) (some_undecided xs) (some_misplaced ms)
  linked_is ds cs h =
      linked_is_by (has_fault (judged_lines l ss xs)) (has_undecided (judged_lines l ss xs)) refl
      refl
      ∙ (ap (λ (b : Bool). linked_by b (has_undecided (judged_lines l ss xs)) (some_misplaced ms))
      (judged_fault l ss ds xs cs h)
      ∙ ap (λ (c : Bool). linked_by (some_fault xs || surface_fault l ss) c (some_misplaced ms))
      (judged_undecided l ss ds xs cs h))

-- ---- two outcomes of one text
module _ (laws : AreaLaws) (l : Layout) (rows : List (List Row)) (rules : List Rule) where
  abbrev count : ℕ
  count = pair_count l rows rules

  module _ (ss ts : List SurfaceAnswer) (sh : AreSurfaceAnswers l rows (surfaces l) ss)
      (sk : AreSurfaceAnswers l rows (surfaces l) ts) (ds : List Plan) (xs ys : List AreaAnswer)
      (cs es : List Plain) (ms ns : List Misplaced) (h : AreAnswers l l.areas ds xs cs)
      (k : AreAnswers l l.areas ds ys es)
      (th : are_fine xs ≡ true → AreTested l rows ds rules ms)
      (tk : are_fine ys ≡ true → AreTested l rows ds rules ns) where
    abbrev left_by : Bool → Bool → Bool → Outcome
    left_by b c f = linked_by l (objects_of rows) ss xs ms (length rules) count b c f

    abbrev right_by : Bool → Bool → Bool → Outcome
    right_by b c f = linked_by l (objects_of rows) ts ys ns (length rules) count b c f

    agree_tested : (f : Bool) → ms ≡ ns
        → Agree (tested_by l (objects_of rows) ss xs ms (length rules) count f)
        (tested_by l (objects_of rows) ts ys ns (length rules) count f)
    agree_tested true e =
        record {
          status = refl;
          lines = accepted_lines laws l rows ss ts ds xs ys cs es
              (link_lines ms (length rules) count) (link_lines ns (length rules) count)
              (lines.verdict verdict.Rejected)
              (ap (λ (x : List Misplaced). link_lines x (length rules) count) e) sh sk h k;
          filings = refl;
        }
    agree_tested false e =
        record {
          status = refl;
          lines = accepted_lines laws l rows ss ts ds xs ys cs es
              (link_lines ms (length rules) count) (link_lines ns (length rules) count)
              (lines.verdict (verdict.Accepted (objects_of rows)))
              (ap (λ (x : List Misplaced). link_lines x (length rules) count) e) sh sk h k;
          filings = refl;
        }

    agree_by : (b c f g : Bool) → (some_fault xs || surface_fault l ss) ≡ b
        → some_undecided xs ≡ c → some_misplaced ms ≡ f → some_misplaced ns ≡ g
        → Agree (left_by b c f) (right_by b c g)
    agree_by true c f g p q u v =
        record {
          status = refl;
          lines = judged_agree laws l rows ss ts ds xs ys cs es
              (lines.verdict verdict.Rejected ∷ [])
              (lines.verdict verdict.Rejected ∷ []) (same refl, tt) sh sk h k;
          filings = refl;
        }
    agree_by false true f g p q u v =
        record {
          status = refl;
          lines = judged_agree laws l rows ss ts ds xs ys cs es
              (lines.verdict verdict.Undecided ∷ []) (lines.verdict verdict.Undecided ∷ [])
              (same refl, tt) sh sk h k;
          filings = refl;
        }
    agree_by false false f g p q u v =
        let fine = (neither (some_fault xs) (surface_fault l ss) p).0 in
        let one = one_tested l rows ds rules ms ns (th (fine_all xs fine q))
        (tk (fine_all ys (sym (same_faults laws l l.areas ds xs ys cs es h k) ∙ fine)
        (sym (same_left laws l l.areas ds xs ys cs es h k) ∙ q))) in
        subst (λ (x : Bool). Agree (tested_by l (objects_of rows) ss xs ms (length rules) count f)
        (tested_by l (objects_of rows) ts ys ns (length rules) count x))
        (sym u ∙ (ap some_misplaced one ∙ v)) (agree_tested f one)

    pub agree_linked : Agree (linked l (objects_of rows) ss xs ms (length rules) count)
        (linked l (objects_of rows) ts ys ns (length rules) count)
    agree_linked =
        let b = some_fault xs || surface_fault l ss in
        let left = left_by b (some_undecided xs) (some_misplaced ms) in
        let both : (some_fault ys || surface_fault l ts) ≡ b =
        ap (λ (x : Bool). x || surface_fault l ts)
        (sym (same_faults laws l l.areas ds xs ys cs es h k))
        ∙ ap (λ (x : Bool). some_fault xs || x)
        (sym (same_surface_faults l rows (surfaces l) ss ts sh sk)) in
        subst (λ (o : Outcome). Agree o (linked l (objects_of rows) ts ys ns (length rules) count))
        (sym (linked_is l (objects_of rows) ss xs ms (length rules) count ds cs h))
        (subst (Agree left)
        (sym (linked_is l (objects_of rows) ts ys ns (length rules) count ds es k))
        (subst (λ (x : Bool). Agree left (right_by x (some_undecided ys) (some_misplaced ns)))
        (sym both)
        (subst (λ (c : Bool). Agree left (right_by b c (some_misplaced ns)))
        (same_left laws l l.areas ds xs ys cs es h k)
        (agree_by b (some_undecided xs) (some_misplaced ms) (some_misplaced ns) refl refl refl
        refl))))

  pub agree_by_rules : (o p : Outcome) → AreTestedBy l rules rows o → AreTestedBy l rules rows p
      → Agree o p
  agree_by_rules o p j k =
      let one = same_drawings l rows l.areas j.drawings k.drawings j.drawn k.drawn in
      subst (λ (x : Outcome). Agree x p) (sym j.is)
      (subst (Agree (linked l (objects_of rows) j.surface_answers j.answers j.misplaced
      (length rules) count)) (sym k.is)
      (agree_linked j.surface_answers k.surface_answers j.surfaces_answered k.surfaces_answered
      k.drawings j.answers k.answers j.certificates k.certificates j.misplaced k.misplaced
      (subst (λ (ds : List Plan). AreAnswers l l.areas ds j.answers j.certificates) one
      j.answered) k.answered
      (λ f. subst (λ (ds : List Plan). AreTested l rows ds rules j.misplaced) one (j.tested f))
      k.tested))
