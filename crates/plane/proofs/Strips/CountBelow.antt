-- How many edges of a list are below a place.
-- Where a list is divided by the place, this number is the length of its lower part.
use Rattle.std.proofs.Common.{◌≡◌, ℕ, zero, suc, ◌+◌, ◌≤◌, Bool, true, false, cond, List, [], ◌∷◌}
use Rattle.std.proofs.Common.{◌++◌, length, ℤ, pos, negsuc, ◌<ℤ◌, ◌≤ℤ◌, refl, arith, ap, sym, ◌∙◌}
use Rattle.std.proofs.Common.{inl, inr}
use Rattle.std.proofs.lemmas.Int.{ints}
use Rattle.plane.specs.Lists.{Has}
use Rattle.plane.specs.Forms.Vectors.{Vector, Edge, side}
use Rattle.plane.specs.Faces.Replays.{Replay}
use Rattle.plane.specs.Faces.Cells.{is_positive, raised}
use Rattle.plane.proofs.Linear.Clear.{Agrees}

-- ---- the test
pub positive_is : (z : ℤ) → pos 0 <ℤ z → is_positive z ≡ true
positive_is (pos zero) h = absurd (omega (arith, ints))
positive_is (pos (suc n)) h = refl
positive_is (negsuc n) h = absurd (omega (arith, ints))

pub not_positive : (z : ℤ) → z ≤ℤ pos 0 → is_positive z ≡ false
not_positive (pos zero) h = refl
not_positive (pos (suc n)) h = absurd (omega (arith, ints))
not_positive (negsuc n) h = refl

pub agrees_test : (e : Edge) (p q : Vector) → Agrees e p q
    → is_positive (side e p) ≡ is_positive (side e q)
agrees_test e p q (inl h) = positive_is _ h.0 ∙ sym (positive_is _ h.1)
agrees_test e p q (inr h) =
    let a = h.0 in
    let b = h.1 in
    not_positive (side e p) (omega (arith, ints))
    ∙ sym (not_positive (side e q) (omega (arith, ints)))

-- ---- the count
pub raised_agrees : (r : Replay) (p q : Vector) (es : List ℕ)
    → ((e : ℕ) → Has e es → Agrees (r.edge e) p q) → raised r p es ≡ raised r q es
raised_agrees r p q [] h = refl
raised_agrees r p q (e ∷ es) h =
    let a = agrees_test (r.edge e) p q (h e (inl refl)) in
    let k = raised_agrees r p q es (λ d m. h d (inr m)) in
    ap (λ (t : Bool). cond t (suc (raised r p es)) (raised r p es)) a
    ∙ ap (λ (n : ℕ). cond (is_positive (side (r.edge e) q)) (suc n) n) k

pub raised_append : (r : Replay) (z : Vector) (xs ys : List ℕ)
    → raised r z (xs ++ ys) ≡ raised r z xs + raised r z ys
raised_append r z [] ys = omega arith
raised_append r z (e ∷ xs) ys =
    step (is_positive (side (r.edge e) z)) _ _ _ (raised_append r z xs ys)
  where
    step : (t : Bool) (m n k : ℕ) → m ≡ n + k → cond t (suc m) m ≡ cond t (suc n) n + k
    step true m n k h = omega arith
    step false m n k h = h

pub raised_all : (r : Replay) (z : Vector) (es : List ℕ)
    → ((e : ℕ) → Has e es → pos 0 <ℤ side (r.edge e) z) → raised r z es ≡ length es
raised_all r z [] h = refl
raised_all r z (e ∷ es) h =
    let k = raised_all r z es (λ d m. h d (inr m)) in
    ap (λ (t : Bool). cond t (suc (raised r z es)) (raised r z es)) (positive_is _ (h e (inl refl)))
    ∙ omega arith

pub raised_none : (r : Replay) (z : Vector) (es : List ℕ)
    → ((e : ℕ) → Has e es → side (r.edge e) z ≤ℤ pos 0) → raised r z es ≡ 0
raised_none r z [] h = refl
raised_none r z (e ∷ es) h =
    let k = raised_none r z es (λ d m. h d (inr m)) in
    ap (λ (t : Bool). cond t (suc (raised r z es)) (raised r z es))
    (not_positive _ (h e (inl refl))) ∙ k

pub raised_most : (r : Replay) (z : Vector) (es : List ℕ) → raised r z es ≤ length es
raised_most r z [] = omega arith
raised_most r z (e ∷ es) = step (is_positive (side (r.edge e) z)) _ _ (raised_most r z es)
  where
    step : (t : Bool) (m n : ℕ) → m ≤ n → cond t (suc m) m ≤ suc n
    step true m n h = omega arith
    step false m n h = omega arith
