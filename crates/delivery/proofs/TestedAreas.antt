-- What is answered to areas and tested of links, one area after the other.
use Rattle.std.proofs.Common.{◌≡◌, ℕ, zero, suc, ◌+◌, ◌<◌, true, List, [], ◌∷◌, ◌++◌}
use Rattle.std.proofs.Common.{length, drop, Some, refl, sym, ap, ◌∙◌, subst, arith}
use Rattle.std.specs.Prelude.{slice_get, slice_index_or}
use Rattle.std.proofs.lemmas.List.{length-append}
use Rattle.area_drawings.specs.Drawings.{area_tolerance}
use Rattle.certificate.specs.Spelling.{Plain}
use Rattle.plane.specs.Rule.Plans.{Plan}
use Rattle.table_layout.specs.Layouts.{AreaOf, Layout}
use Rattle.reports.specs.Kinds.{answer_kind, is_fine}
use Rattle.reports.specs.declared.lines.AreaAnswer.{AreaAnswer}
use Rattle.delivery.specs.AreaAnswers.{AreAnswers}
use Rattle.delivery.specs.AskedLinks.{AreResults, AreTestedAnswers, IsTestedAnswer, asked_pairs}
use Rattle.delivery.specs.declared.links.asked.AskedArea.{AskedArea}
use Rattle.delivery.proofs.AnswerLemmas.{GoesOn, all_answered, begin, go_on}

-- the first areas are answered, and what is asked of each is tested where its answer is fine
pub record AreTestedTo (l : Layout) (ds : List Plan) (asked : List AskedArea) (n : ℕ)
    (xs : List AreaAnswer) (results : List (List (List ℕ))) : Type 0 where
  pub certificates : List Plain
  pub goes_on : GoesOn l l.areas ds (drop n l.areas) (drop n ds) xs certificates
  pub count : length xs ≡ n
  pub counted : length results ≡ n
  pub each : (k : ℕ) (a : AreaOf) (d : Plan) (q : AskedArea) (x : AreaAnswer)
      → slice_get l.areas k ≡ Some a → slice_get ds k ≡ Some d → slice_get asked k ≡ Some q
      → slice_get xs k ≡ Some x → is_fine (answer_kind x) ≡ true
      → AreResults (area_tolerance l a) d (asked_pairs q) (slice_index_or results k [])

pub none_tested : (l : Layout) (ds : List Plan) (asked : List AskedArea)
    → AreTestedTo l ds asked 0 [] []
none_tested l ds asked = record {
  certificates = [];
  goes_on = begin l l.areas ds;
  count = refl;
  counted = refl;
  each = λ k a d q x e f g h. absurd (cc);
}

same_some : {X : Type 0} (a b : X) → Some a ≡ Some b → a ≡ b
same_some a b e = cc

-- a place of a list with one more
first_get : {X : Type 0} (xs : List X) (y x : X) (k : ℕ) → k < length xs
    → slice_get (xs ++ y ∷ []) k ≡ Some x → slice_get xs k ≡ Some x
first_get [] y x k lt e = absurd (omega (arith, lt))
first_get (z ∷ xs) y x zero lt e = e
first_get (z ∷ xs) y x (suc k) lt e = first_get xs y x k (omega (arith, lt)) e

last_get : {X : Type 0} (xs : List X) (y x : X) (k : ℕ) → k ≡ length xs
    → slice_get (xs ++ y ∷ []) k ≡ Some x → y ≡ x
last_get [] y x k e g = same_some y x (ap (λ (n : ℕ). slice_get (y ∷ []) n) (sym e) ∙ g)
last_get (z ∷ xs) y x zero e g = absurd (omega (arith, e))
last_get (z ∷ xs) y x (suc k) e g = last_get xs y x k (omega (arith, e)) g

below : {X : Type 0} (xs : List X) (k : ℕ) (x : X) → slice_get xs k ≡ Some x → k < length xs
below [] k x e = absurd (cc)
below (y ∷ xs) zero x e = omega arith
below (y ∷ xs) (suc k) x e = let h = below xs k x e in omega (arith, h)

first_or : (rs : List (List (List ℕ))) (r : List (List ℕ)) (k : ℕ) → k < length rs
    → slice_index_or (rs ++ r ∷ []) k [] ≡ slice_index_or rs k []
first_or [] r k lt = absurd (omega (arith, lt))
first_or (z ∷ rs) r zero lt = refl
first_or (z ∷ rs) r (suc k) lt = first_or rs r k (omega (arith, lt))

last_or : (rs : List (List (List ℕ))) (r : List (List ℕ)) (k : ℕ) → k ≡ length rs
    → slice_index_or (rs ++ r ∷ []) k [] ≡ r
last_or [] r k e = ap (λ (n : ℕ). slice_index_or (r ∷ []) n []) e
last_or (z ∷ rs) r zero e = absurd (omega (arith, e))
last_or (z ∷ rs) r (suc k) e = last_or rs r k (omega (arith, e))

dropped : {X : Type 0} (xs : List X) (n : ℕ) (x : X) → slice_get xs n ≡ Some x
    → drop n xs ≡ x ∷ drop (n + 1) xs
dropped [] n x e = absurd (cc)
dropped (y ∷ xs) zero x e = ap (λ z. z ∷ xs) (same_some y x e)
dropped (y ∷ xs) (suc n) x e =
    dropped xs n x e
    ∙ ap (λ (m : ℕ). x ∷ drop m (y ∷ xs)) (let q : suc (n + 1) ≡ suc n + 1 = omega arith in q)

either : (k n : ℕ) → k < n + 1 → (P : Type 0) → (k < n → P) → (k ≡ n → P) → P
either zero zero lt P f g = g refl
either zero (suc n) lt P f g = f (omega arith)
either (suc k) zero lt P f g = absurd (omega (arith, lt))
either (suc k) (suc n) lt P f g =
    either k n (omega (arith, lt)) P (λ l. f (omega (arith, l))) (λ e. g (ap suc e))

module _ (l : Layout) (ds : List Plan) (asked : List AskedArea) (n : ℕ) (xs : List AreaAnswer)
    (results : List (List (List ℕ))) (h : AreTestedTo l ds asked n xs results) (a : AreaOf)
    (d : Plan) (q : AskedArea) (x : AreaAnswer) (cs : List Plain) (r : List (List ℕ))
    (area : slice_get l.areas n ≡ Some a) (drawing : slice_get ds n ≡ Some d)
    (asks : slice_get asked n ≡ Some q) (one : IsTestedAnswer l a d (asked_pairs q) x cs r) where
  pub tested_more : AreTestedTo l ds asked (n + 1) (xs ++ x ∷ []) (results ++ r ∷ [])
  tested_more = record {
    certificates = h.certificates ++ cs;
    goes_on =
        go_on l l.areas (drop n l.areas) ds (drop n ds) a d (drop (n + 1) l.areas)
        (drop (n + 1) ds) xs h.certificates x cs (xs ++ x ∷ []) (h.certificates ++ cs)
        (dropped l.areas n a area) (dropped ds n d drawing) refl refl one.answer h.goes_on;
    count = (let c = h.count in let m = length-append xs (x ∷ []) in omega (arith, c, m));
    counted = (let c = h.counted in let m = length-append results (r ∷ []) in omega (arith, c, m));
    each = λ k b e p y i j m o f.
        either k n
        (let w = below (xs ++ x ∷ []) k y o in
        let c = h.count in
        let m = length-append xs (x ∷ []) in
        omega (arith, w, c, m))
        (AreResults (area_tolerance l b) e (asked_pairs p)
        (slice_index_or (results ++ r ∷ []) k []))
        (λ lt. subst (AreResults (area_tolerance l b) e (asked_pairs p))
        (sym (first_or results r k (let c = h.counted in omega (arith, lt, c))))
        (h.each k b e p y i j m
        (first_get xs x y k (let c = h.count in omega (arith, lt, c)) o) f))
        (λ same. here k b e p y same i j m o f);
  }
    where
      here : (k : ℕ) (b : AreaOf) (e : Plan) (p : AskedArea) (y : AreaAnswer) → k ≡ n
          → slice_get l.areas k ≡ Some b → slice_get ds k ≡ Some e → slice_get asked k ≡ Some p
          → slice_get (xs ++ x ∷ []) k ≡ Some y → is_fine (answer_kind y) ≡ true
          → AreResults (area_tolerance l b) e (asked_pairs p)
          (slice_index_or (results ++ r ∷ []) k [])
      here k b e p y same i j m o f =
          let sa = same_some a b (sym area ∙ ap (λ (z : ℕ). slice_get l.areas z) (sym same) ∙ i) in
          let sd = same_some d e (sym drawing ∙ ap (λ (z : ℕ). slice_get ds z) (sym same) ∙ j) in
          let sq = same_some q p (sym asks ∙ ap (λ (z : ℕ). slice_get asked z) (sym same) ∙ m) in
          let sx = last_get xs x y k (same ∙ sym h.count) o in
          let sr = last_or results r k (same ∙ sym h.counted) in
          subst (AreResults (area_tolerance l b) e (asked_pairs p)) (sym sr)
          (subst (λ (z : AskedArea). AreResults (area_tolerance l b) e (asked_pairs z) r) sq
          (subst (λ (z : Plan). AreResults (area_tolerance l b) z (asked_pairs q) r) sd
          (subst (λ (z : AreaOf). AreResults (area_tolerance l z) d (asked_pairs q) r) sa
          (one.results_are
          (subst (λ (z : AreaAnswer). is_fine (answer_kind z) ≡ true) (sym sx) f)))))

-- ---- counts
pub answers_count : (l : Layout) (as_ : List AreaOf) (ds : List Plan) (xs : List AreaAnswer)
    (cs : List Plain) → AreAnswers l as_ ds xs cs
    → (length xs ≡ length as_) × (length ds ≡ length as_)
answers_count l [] [] [] cs h = (refl, refl)
answers_count l [] [] (x ∷ xs) cs h = absurd h
answers_count l [] (d ∷ ds) xs cs h = absurd h
answers_count l (a ∷ as_) [] xs cs h = absurd h
answers_count l (a ∷ as_) (d ∷ ds) [] cs h = absurd h
answers_count l (a ∷ as_) (d ∷ ds) (x ∷ xs) cs h =
    let n = answers_count l as_ ds xs h.1 h.3 in
    (ap suc n.0, ap suc n.1)

-- all areas are answered
pub tested_all : (l : Layout) (ds : List Plan) (asked : List AskedArea) (n : ℕ)
    (xs : List AreaAnswer) (results : List (List (List ℕ))) → length l.areas ≡ n → length ds ≡ n
    → AreTestedTo l ds asked n xs results → AreTestedAnswers l ds asked xs results
tested_all l ds asked n xs results na nd h = record {
  certificates = h.certificates;
  answered =
      all_answered l l.areas (drop n l.areas) ds (drop n ds) xs h.certificates
      (dropped_all l.areas n na) (dropped_all ds n nd) h.goes_on;
  each = h.each;
}
  where
    dropped_all : {X : Type 0} (ys : List X) (n : ℕ) → length ys ≡ n → drop n ys ≡ []
    dropped_all [] zero e = refl
    dropped_all [] (suc n) e = absurd (omega (arith, e))
    dropped_all (y ∷ ys) zero e = absurd (omega (arith, e))
    dropped_all (y ∷ ys) (suc n) e = dropped_all ys n (omega (arith, e))
