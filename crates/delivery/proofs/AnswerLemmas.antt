-- The answer to one area, and to one area after the other.
use Rattle.std.proofs.Common.{◌≡◌, ℕ, ℤ, Bool, suc, ◌+◌, ◌<◌, ◌≤◌, ◌^◌, List, [], ◌∷◌, ◌++◌, length}
use Rattle.std.proofs.Common.{Option, Some, None, refl, sym, ap, ◌∙◌, subst, arith, append-nil}
use Rattle.std.proofs.Common.{append_assoc, ◌⊎◌, inl, inr}
use Rattle.std.specs.List.{All, AllByRecursion, AllZip}
use Rattle.std.proofs.lemmas.List.{length-append}
use Rattle.std.proofs.lemmas.List.Elements.{All-head, All-tail}
use Rattle.certificate.specs.Spelling.{Plain, Fits, HasNamesAndCounts, IsName, pairs, view}
use Rattle.certificate.specs.declared.notes.HalfNote.{HalfNote}
use Rattle.certificate.specs.declared.notes.Certificate.{Certificate}
use Rattle.certificate_checker.specs.Subjects.{Claims, claims}
use Rattle.certificate_checker.specs.Verdicts.{Proves}
use Rattle.table_layout.specs.Layouts.{AreaOf, Layout}
use Rattle.table_layout.specs.Values.{area_view, areas_view}
use Rattle.table_layout.specs.declared.layouts.AreaOf.{AreaOf as CodeArea}
use Rattle.plane.specs.Rule.Plans.{Plan, plan}
use Rattle.plane.specs.declared.drawing.Drawing.{Drawing}
use Rattle.area_search.specs.Grounds.{IsAnswerBy, ProvesGround}
use Rattle.forks.specs.Grounds.{IsGround, own, bent}
use Rattle.tubes.specs.FewEdges.{HasFewEdges}
use Rattle.area_drawings.specs.Drawings.{area_tolerance}
use Rattle.area_drawings.specs.KeptViews.{HasTolerance}
use Rattle.area_search.specs.declared.kinds.AreaAnswer.{AreaAnswer as Found}
use Rattle.area_search.specs.declared.kinds.AreaAnswer.TheVariants as found
use Rattle.area_search.specs.declared.kinds.AreaFinding.{AreaFinding}
use Rattle.delivery.specs.AnswerViews.{certificates_in, named}
use Rattle.delivery.specs.AreaAnswers.{IsAnswer, faulty, undecided, proved, fault_answer}
use Rattle.delivery.specs.AreaAnswers.{undecided_answer, AreAnswers}
use Rattle.reports.specs.AreaKinds.{proof_answer, plans}
use Rattle.delivery.specs.AreaCertificates.{claims_of}
use Rattle.area_drawings.specs.AreaLimits.{IsSmallPlan}
use Rattle.delivery.proofs.CertificateLemmas.{chosen_view, proved_view}
use Rattle.reports.specs.AreaNames.{HasTitle, topic_name, table_name}
use Rattle.reports.specs.declared.lines.AreaAnswer.{AreaAnswer}

-- ---- one answer
-- the certificate that a search gives proves the ground of the drawing
abbrev pub ProofsAreOfGrounds : Type 0
ProofsAreOfGrounds =
    (t : ℤ) (d : Plan) (c : Certificate) → IsAnswerBy t d (found.Proved c)
    → ProvesGround t d c.bent (claims c)

module _ (l : Layout) (a : AreaOf) (d : Plan) where
  -- what it proves under the names of the area
  proved_named : (c : Certificate) (topic table attribute : List ℕ)
      → ProvesGround (area_tolerance l a) d c.bent (claims c)
      → ProvesGround (area_tolerance l a) d c.bent
      (claims_of (named topic table attribute (view c)))
  proved_named c topic table attribute h = record {
    g = h.g;
    origin = h.origin;
    right = h.right;
    clear = h.clear;
    proves = proved_view h.g c h.proves;
    least = h.least;
    chosen = chosen_view h.g c h.proves h.chosen;
    area = h.area;
  }

  pub answer_proved : (c e : Certificate) (topic table attribute : List ℕ)
      → ProvesGround (area_tolerance l a) d c.bent (claims c)
      → view e ≡ named topic table attribute (view c)
      → topic ≡ topic_name l a → table ≡ table_name l a → attribute ≡ a.name
      → (x : AreaAnswer) → x ≡ proof_answer d c.level → IsAnswer l a d x (certificates_in (Some e))
  answer_proved c e topic table attribute h v t m n x y =
      let level : c.level ≡ (view e).level = sym (ap (λ (z : Plain). z.level) v) in
      proved (view e)
      (record {
        topic = ap (λ (z : Plain). z.topic) v ∙ t;
        table = ap (λ (z : Plain). z.table) v ∙ m;
        attribute = ap (λ (z : Plain). z.attribute) v ∙ n;
      })
      (subst (λ (z : Plain). ProvesGround (area_tolerance l a) d z.bent (claims_of z)) (sym v)
      (proved_named c topic table attribute h))
      (y ∙ ap (proof_answer d) level) refl

  pub answer_faulty : (t : ℤ) (b : Found) (f : AreaFinding) → t ≡ area_tolerance l a
      → IsAnswerBy t d b → b ≡ found.Fault f
      → (x : AreaAnswer) → x ≡ fault_answer d f → IsAnswer l a d x (certificates_in None)
  answer_faulty t b f e h q x y =
      faulty f (subst (λ (s : ℤ). IsAnswerBy s d (found.Fault f)) e
      (subst (IsAnswerBy t d) q h)) y refl

  pub answer_undecided : (t : ℤ) (b : Found) (i j : ℕ) → t ≡ area_tolerance l a
      → IsAnswerBy t d b → b ≡ found.Undecided i j
      → (x : AreaAnswer) → x ≡ undecided_answer d i j → IsAnswer l a d x (certificates_in None)
  answer_undecided t b i j e h q x y =
      undecided i j (subst (λ (s : ℤ). IsAnswerBy s d (found.Undecided i j)) e
      (subst (IsAnswerBy t d) q h)) y refl

-- ---- a certificate that can be written
pairs_fewer : (notes : List HalfNote) → length (pairs notes) ≤ length notes
pairs_fewer [] = omega arith
pairs_fewer (n ∷ []) = omega arith
pairs_fewer (n ∷ m ∷ notes) = omega (arith, pairs_fewer notes)

-- what the checker of certificates says of the counts of claims that prove a drawing
pub record CountLaws : Type 0 where
  pub positions : (d : Plan) (c : Claims) → Proves d c → HasFewEdges d → length c.positions < 2 ^ 32
  pub notes : (d : Plan) (c : Claims) → Proves d c → HasFewEdges d → length c.notes < 2 ^ 32
  pub places : (d : Plan) (c : Claims) → Proves d c → length c.places ≡ length d.points
  pub few : (t : ℤ) (d g : Plan) (is_bent : Bool) (origin : List ℕ) → IsGround t d is_bent g origin
      → length d.curves ≤ 16000000 → HasFewEdges g

-- a drawing and what becomes of it have the same points
same_points : (t : ℤ) (d g : Plan) (is_bent : Bool) (origin : List ℕ)
    → IsGround t d is_bent g origin → length g.points ≡ length d.points
same_points t d g is_bent origin (own e q o) = ap (λ (p : Plan). length p.points) q
same_points t d g is_bent origin (bent e b) = ap length b.points

module _ (laws : CountLaws) (l : Layout) (a : AreaOf) (d : Plan) (c : Certificate)
    (h : ProvesGround (area_tolerance l a) d c.bent (claims c)) (names : HasTitle l a)
    (small : IsSmallPlan d) where
  pub can_be_written : (e : Certificate) (topic table attribute : List ℕ)
      → view e ≡ named topic table attribute (view c)
      → topic ≡ topic_name l a → table ≡ table_name l a → attribute ≡ a.name
      → HasNamesAndCounts (view e)
  can_be_written e topic table attribute v t m n =
      let few = laws.few (area_tolerance l a) d h.g c.bent h.origin h.right.is_ground
      small.curves in
      let points = same_points (area_tolerance l a) d h.g c.bent h.origin h.right.is_ground in
      subst HasNamesAndCounts (sym v)
      (record {
        topic = subst IsName (sym t) names.topic;
        table = subst IsName (sym m) names.table;
        attribute = subst IsName (sym n) names.attribute;
        position_count = laws.positions h.g (claims c) h.proves few;
        edge_count =
            omega (arith, pairs_fewer c.notes.items, laws.notes h.g (claims c) h.proves few);
        place_count = omega (arith, laws.places h.g (claims c) h.proves, points, small.points);
      })

-- ---- one area after the other
-- what is answered to some areas may be followed by what is answered to the rest
abbrev pub GoesOn : Layout → List AreaOf → List Plan → List AreaOf → List Plan → List AreaAnswer
    → List Plain → Type 0
GoesOn l all ds rest es xs cs = (ys : List AreaAnswer) (bs : List Plain)
    → AreAnswers l rest es ys bs → AreAnswers l all ds (xs ++ ys) (cs ++ bs)

pub begin : (l : Layout) (all : List AreaOf) (ds : List Plan) → GoesOn l all ds all ds [] []
begin l all ds ys bs h = h

pub go_on : (l : Layout) (all rest : List AreaOf) (ds es : List Plan) (a : AreaOf) (d : Plan)
    (as_ : List AreaOf) (fs : List Plan) (xs : List AreaAnswer) (cs : List Plain) (x : AreaAnswer)
    (here : List Plain) (more : List AreaAnswer) (kept : List Plain)
    → rest ≡ a ∷ as_ → es ≡ d ∷ fs → more ≡ xs ++ x ∷ [] → kept ≡ cs ++ here → IsAnswer l a d x here
    → GoesOn l all ds rest es xs cs → GoesOn l all ds as_ fs more kept
go_on l all rest ds es a d as_ fs xs cs x here more kept q r u w n g ys bs h =
    let all_rest : AreAnswers l rest es (x ∷ ys) (here ++ bs) =
    subst (λ (bs_ : List AreaOf). AreAnswers l bs_ es (x ∷ ys) (here ++ bs)) (sym q)
    (subst (λ (zs : List Plan). AreAnswers l (a ∷ as_) zs (x ∷ ys) (here ++ bs)) (sym r)
    (here, bs, n, h, refl)) in
    let joined : xs ++ x ∷ ys ≡ more ++ ys = sym (append_assoc xs (x ∷ []) ys)
    ∙ ap (λ (zs : List AreaAnswer). zs ++ ys) (sym u) in
    let filed : cs ++ (here ++ bs) ≡ kept ++ bs = sym (append_assoc cs here bs)
    ∙ ap (λ (zs : List Plain). zs ++ bs) (sym w) in
    subst (λ (zs : List AreaAnswer). AreAnswers l all ds zs (kept ++ bs)) joined
    (subst (AreAnswers l all ds (xs ++ x ∷ ys)) filed (g (x ∷ ys) (here ++ bs) all_rest))

pub all_answered : (l : Layout) (all rest : List AreaOf) (ds es : List Plan) (xs : List AreaAnswer)
    (cs : List Plain)
    → rest ≡ [] → es ≡ [] → GoesOn l all ds rest es xs cs → AreAnswers l all ds xs cs
all_answered l all rest ds es xs cs q r g =
    let last : AreAnswers l rest es [] [] = subst (λ (bs_ : List AreaOf). AreAnswers l bs_ es [] [])
    (sym q) (subst (λ (zs : List Plan). AreAnswers l [] zs [] []) (sym r) refl) in
    subst (λ (zs : List AreaAnswer). AreAnswers l all ds zs cs) (append-nil xs)
    (subst (AreAnswers l all ds (xs ++ [])) (append-nil cs) (g [] [] last))

-- ---- two lists of one length that are gone through together
pub shorter_both : {A B : Type 0} (as_ : List A) (a : A) (rest : List A) (bs : List B) (b : B)
    (more : List B)
    → as_ ≡ a ∷ rest → bs ≡ b ∷ more → length bs ≡ length as_ → length more ≡ length rest
shorter_both as_ a rest bs b more e f h =
    let n : length as_ ≡ suc (length rest) = ap length e in
    let m : length bs ≡ suc (length more) = ap length f in
    omega (arith, n, m, h)

pub both_ended : {A B : Type 0} (as_ : List A) (bs : List B) → length bs ≡ length as_
    → (as_ ≡ []) ⊎ (bs ≡ []) → (as_ ≡ []) × (bs ≡ [])
both_ended [] [] h k = (refl, refl)
both_ended [] (b ∷ bs) h k = absurd (omega (arith, h))
both_ended (a ∷ as_) [] h k = absurd (omega (arith, h))
both_ended (a ∷ as_) (b ∷ bs) h (inl e) = absurd (cc)
both_ended (a ∷ as_) (b ∷ bs) h (inr e) = absurd (cc)

-- ---- names of areas, one after the other
pub named_first : (l : Layout) (all : List CodeArea) (a : CodeArea) (rest : List CodeArea)
    → all ≡ a ∷ rest → All (HasTitle l) (areas_view all) → HasTitle l (area_view a)
named_first l all a rest e h =
    All-head (HasTitle l) (area_view a) (areas_view rest)
    (subst (λ (as_ : List CodeArea). All (HasTitle l) (areas_view as_)) e h)

pub named_rest : (l : Layout) (all : List CodeArea) (a : CodeArea) (rest : List CodeArea)
    → all ≡ a ∷ rest → All (HasTitle l) (areas_view all) → All (HasTitle l) (areas_view rest)
named_rest l all a rest e h =
    All-tail (HasTitle l) (area_view a) (areas_view rest)
    (subst (λ (as_ : List CodeArea). All (HasTitle l) (areas_view as_)) e h)

-- ---- certificates that can be written, one after the other
all_append : {X : Type 0} (P : X → Type 0) (xs ys : List X) → AllByRecursion P xs
    → AllByRecursion P ys → AllByRecursion P (xs ++ ys)
all_append P [] ys h k = k
all_append P (x ∷ xs) ys h k = (h.0, all_append P xs ys h.1 k)

pub fit_more : (cs here more : List Plain) → more ≡ cs ++ here → AllByRecursion Fits cs
    → AllByRecursion Fits here → AllByRecursion Fits more
fit_more cs here more e h k = subst (AllByRecursion Fits) (sym e) (all_append Fits cs here h k)

one_at_most : (c : Option Certificate) → length (certificates_in c) ≤ 1
one_at_most None = omega arith
one_at_most (Some c) = omega arith

-- there are no more certificates than areas that were answered
pub count_more : (n : ℕ) (all : List CodeArea) (a : CodeArea) (rest : List CodeArea)
    (cs more : List Plain) (c : Option Certificate)
    → all ≡ a ∷ rest → more ≡ cs ++ certificates_in c
    → length cs + length all ≤ n → length more + length rest ≤ n
count_more n all a rest cs more c e m h =
    let len : length all ≡ suc (length rest) = ap length e in
    let kept : length more ≡ length (cs ++ certificates_in c) = ap length m in
    omega (arith, len, kept, length-append cs (certificates_in c), one_at_most c, h)

-- ---- drawings with few curves and points, one after the other
pub few_first : (all : List Drawing) (d : Drawing) (rest : List Drawing) → all ≡ d ∷ rest
    → All IsSmallPlan (plans all) → IsSmallPlan (plan d)
few_first all d rest e h =
    All-head IsSmallPlan (plan d) (plans rest)
    (subst (λ (ds : List Drawing). All IsSmallPlan (plans ds)) e h)

pub few_rest : (all : List Drawing) (d : Drawing) (rest : List Drawing) → all ≡ d ∷ rest
    → All IsSmallPlan (plans all) → All IsSmallPlan (plans rest)
few_rest all d rest e h =
    All-tail IsSmallPlan (plan d) (plans rest)
    (subst (λ (ds : List Drawing). All IsSmallPlan (plans ds)) e h)

-- ---- drawings with the overlaps of their areas, one after the other
abbrev pub HaveTolerances : Layout → List CodeArea → List Drawing → Type 0
HaveTolerances l as_ ds = AllZip (HasTolerance l) (areas_view as_) ds

pub tolerance_first : (l : Layout) (all : List CodeArea) (ds : List Drawing) (a : CodeArea)
    (rest : List CodeArea)
    (d : Drawing) (more : List Drawing) → all ≡ a ∷ rest → ds ≡ d ∷ more → HaveTolerances l all ds
    → d.tolerance ≡ area_tolerance l (area_view a)
tolerance_first l all ds a rest d more e f h =
    (subst (HaveTolerances l (a ∷ rest)) f
    (subst (λ (as_ : List CodeArea). HaveTolerances l as_ ds) e h)).0

pub tolerance_rest : (l : Layout) (all : List CodeArea) (ds : List Drawing) (a : CodeArea)
    (rest : List CodeArea)
    (d : Drawing) (more : List Drawing) → all ≡ a ∷ rest → ds ≡ d ∷ more → HaveTolerances l all ds
    → HaveTolerances l rest more
tolerance_rest l all ds a rest d more e f h =
    (subst (HaveTolerances l (a ∷ rest)) f
    (subst (λ (as_ : List CodeArea). HaveTolerances l as_ ds) e h)).1
