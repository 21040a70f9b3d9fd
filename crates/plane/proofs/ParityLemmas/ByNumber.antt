-- Chosen edges by number, and those of them that are live.
-- A parity over a list is a parity over numbers.
use Rattle.std.proofs.Common.{◌≡◌, ℕ, zero, suc, ◌<◌, Bool, true, false, cond, List, [], ◌∷◌, ◌⊎◌}
use Rattle.std.proofs.Common.{inl, inr, pos, ◌<ℤ◌, ◌≤ℤ◌, refl, arith, ap, sym, ◌∙◌, subst}
use Rattle.std.proofs.lemmas.Int.{ints, by_lt_z}
use Rattle.plane.specs.Forms.Vectors.{Edge}
use Rattle.plane.specs.Lists.{Has, Once}
use Rattle.plane.specs.Faces.Parity.{both, differ, either, parity, same_number, among, chosen}
use Rattle.plane.proofs.ParityLemmas.ParityWords.{numbers_below}
use Rattle.plane.proofs.ParityLemmas.Wedges.{not_both}
use Rattle.plane.proofs.ParityLemmas.Parities.{differ_false, parity_map, parity_none, parity_differ}

pub number_is : (a b : ℕ) → same_number a b ≡ true → a ≡ b
number_is zero zero h = refl
number_is zero (suc b) h = absurd (not_both (sym h))
number_is (suc a) zero h = absurd (not_both (sym h))
number_is (suc a) (suc b) h = ap suc (number_is a b h)

pub number_self : (a : ℕ) → same_number a a ≡ true
number_self zero = refl
number_self (suc a) = number_self a

-- a test is true or false
pub by_test : {P : Type 0} (b : Bool) → (b ≡ true → P) → (b ≡ false → P) → P
by_test true f g = f refl
by_test false f g = g refl

pub other_number : (a b : ℕ) → (a ≡ b → ⊥) → same_number a b ≡ false
other_number a b n = by_test (same_number a b) (λ h. absurd (n (number_is a b h))) (λ h. h)

pub is_among : (xs : List ℕ) (e : ℕ) → Has e xs → among xs e ≡ true
is_among [] e k = absurd k
is_among (x ∷ xs) e (inl q) =
    ap (λ b. either b (among xs e)) (subst (λ n. same_number n e ≡ true) q (number_self e))
is_among (x ∷ xs) e (inr k) = ap (λ b. either (same_number x e) b) (is_among xs e k)
    ∙ either_true (same_number x e)
  where
    either_true : (b : Bool) → either b true ≡ true
    either_true true = refl
    either_true false = refl

pub not_among : (xs : List ℕ) (e : ℕ) → (Has e xs → ⊥) → among xs e ≡ false
not_among [] e n = refl
not_among (x ∷ xs) e n = ap (λ b. either b (among xs e)) (other_number x e (λ q. n (inl (sym q))))
    ∙ not_among xs e (λ k. n (inr k))

number_below : (m e : ℕ) → Has e (numbers_below m) → e < m
number_below zero e k = absurd k
number_below (suc m) e (inl q) = omega (arith, q)
number_below (suc m) e (inr k) = let l = number_below m e k in omega (arith, l)

-- on the numbers below m
pub numbers_map : (m : ℕ) (p q : ℕ → Bool) → ((e : ℕ) → e < m → p e ≡ q e)
    → parity p (numbers_below m) ≡ parity q (numbers_below m)
numbers_map m p q h = parity_map p q (numbers_below m) (λ e k. h e (number_below m e k))

numbers_none : (m : ℕ) (p : ℕ → Bool) → ((e : ℕ) → e < m → p e ≡ false)
    → parity p (numbers_below m) ≡ false
numbers_none m p h = parity_none p (numbers_below m) (λ e k. h e (number_below m e k))

lower : (x m : ℕ) → x < suc m → (x ≡ m → ⊥) → x < m
lower x m l n =
    by_lt_z (pos x) (pos m) (λ (k : pos x <ℤ pos m). omega (arith, ints, k))
    (λ (k : pos m ≤ℤ pos x). absurd (n (omega (arith, ints, l, k))))

-- one number
single : (m x : ℕ) (f : ℕ → Bool) → x < m
    → parity (λ e. both (same_number x e) (f e)) (numbers_below m) ≡ f x
single zero x f l = absurd (omega (arith, l))
single (suc m) x f l = by_test (same_number x m)
    (λ h.
    let q = number_is x m h in
    ap (λ b. differ (both b (f m)) (parity (λ e. both (same_number x e) (f e)) (numbers_below m))) h
    ∙ ap (λ b. differ (f m) b)
    (numbers_none m (λ e. both (same_number x e) (f e))
    (λ e k. ap (λ b. both b (f e)) (other_number x e (λ r. omega (arith, q, r, k)))))
    ∙ differ_false (f m) ∙ ap f (sym q))
    (λ h.
    ap (λ b. differ (both b (f m)) (parity (λ e. both (same_number x e) (f e)) (numbers_below m))) h
    ∙ single m x f
    (lower x m l
    (λ q. not_both (sym (number_self m) ∙ subst (λ n. same_number n m ≡ false) q h))))

split_one : (s t f : Bool) → (s ≡ true → t ≡ false)
    → both (either s t) f ≡ differ (both s f) (both t f)
split_one true t f h = sym (ap (λ b. differ f (both b f)) (h refl) ∙ differ_false f)
split_one false t f h = refl

-- the members of a list that repeats none
pub members : (m : ℕ) (xs : List ℕ) (f : ℕ → Bool) → Once xs → ((e : ℕ) → Has e xs → e < m)
    → parity (λ e. both (among xs e) (f e)) (numbers_below m) ≡ parity f xs
members m [] f once below = numbers_none m (λ e. both (among [] e) (f e)) (λ e k. refl)
members m (x ∷ xs) f once below =
    numbers_map m (λ e. both (among (x ∷ xs) e) (f e))
    (λ e. differ (both (same_number x e) (f e)) (both (among xs e) (f e)))
    (λ e k. split_one (same_number x e) (among xs e) (f e)
    (λ h. not_among xs e (λ i. once.0 (subst (λ n. Has n xs) (sym (number_is x e h)) i))))
    ∙ parity_differ (λ e. both (same_number x e) (f e)) (λ e. both (among xs e) (f e))
    (numbers_below m)
    ∙ ap (λ b. differ b (parity (λ e. both (among xs e) (f e)) (numbers_below m)))
    (single m x f (below x (inl refl)))
    ∙ ap (λ b. differ (f x) b) (members m xs f once.1 (λ e k. below e (inr k)))

-- ---- the chosen edges as a list
pick : (p : Edge → Bool) (t : Bool) (e : Edge) (es : List Edge) (d : Bool) → parity p es ≡ d
    → parity p (cond t (e ∷ es) es) ≡ differ (both t (p e)) d
pick p true e es d h = ap (λ b. differ (p e) b) h
pick p false e es d h = h

pub chosen_parity : (c : ℕ → Bool) (m : ℕ) (E : ℕ → Edge) (p : Edge → Bool)
    → parity p (chosen c m E) ≡ parity (λ e. both (c e) (p (E e))) (numbers_below m)
chosen_parity c zero E p = refl
chosen_parity c (suc m) E p = pick p (c m) (E m) (chosen c m E) _ (chosen_parity c m E p)

taken : (t : Bool) (e d : Edge) (es : List Edge) → Has d (cond t (e ∷ es) es) → (d ≡ e) ⊎ Has d es
taken true e d es k = k
taken false e d es k = inr k

pub chosen_has : (c : ℕ → Bool) (m : ℕ) (E : ℕ → Edge) (d : Edge) → Has d (chosen c m E)
    → (i : ℕ) × (i < m) × (d ≡ E i)
chosen_has c zero E d k = absurd k
chosen_has c (suc m) E d k = elim (taken (c m) (E m) d (chosen c m E) k) [
  | inl q ↦ (m, omega arith, q)
  | inr i ↦ let r = chosen_has c m E d i in let l = r.1 in (r.0, omega (arith, l), r.2)
]
