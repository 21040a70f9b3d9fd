-- Parities over a list of edges and over the same edges by number, and the number of edges with an
-- end in a point.
-- The cells on the two sides of a chosen edge have different parities.
use Rattle.std.proofs.Common.{◌≡◌, ℕ, zero, suc, ◌<◌, Bool, true, false, List, [], ◌∷◌, ◌++◌}
use Rattle.std.proofs.Common.{length, get_or, refl, ap, sym, ◌∙◌}
use Rattle.plane.specs.declared.kinds.Point.{Point}
use Rattle.plane.specs.Forms.Vectors.{Edge}
use Rattle.plane.specs.Lists.{Has, Once}
use Rattle.plane.specs.Faces.Parity.{both, differ, either, parity, same_point, EvenEnds, among}
use Rattle.plane.specs.Faces.Parity.{chosen, parity_over}
use Rattle.plane.proofs.ParityLemmas.ParityWords.{tally, Even, numbers_below}
use Rattle.plane.proofs.ParityLemmas.Wedges.{not_both}
use Rattle.plane.proofs.ParityLemmas.Parities.{parity_map, parity_ends, even_parity, same_is}
use Rattle.plane.proofs.ParityLemmas.ByNumber.{by_test, is_among, not_among, numbers_map, members}
use Rattle.plane.proofs.ParityLemmas.ByNumber.{chosen_parity}

-- all edges of a list, by number
abbrev pub listed : List Edge → Edge → List Edge
listed es d = chosen (λ e. true) (length es) (λ e. get_or es e d)

swap_first : (a b c : Bool) → differ a (differ b c) ≡ differ b (differ a c)
swap_first true true c = refl
swap_first true false true = refl
swap_first true false false = refl
swap_first false true c = refl
swap_first false false c = refl

-- the first number and the others
numbers_first : (f : ℕ → Bool) (n : ℕ)
    → parity f (numbers_below (suc n)) ≡ differ (f 0) (parity (λ e. f (suc e)) (numbers_below n))
numbers_first f zero = refl
numbers_first f (suc n) = ap (λ b. differ (f (suc n)) b) (numbers_first f n)
    ∙ swap_first (f (suc n)) (f 0) (parity (λ e. f (suc e)) (numbers_below n))

numbered : (p : Edge → Bool) (es : List Edge) (d : Edge)
    → parity p es ≡ parity (λ e. p (get_or es e d)) (numbers_below (length es))
numbered p [] d = refl
numbered p (x ∷ es) d = ap (λ b. differ (p x) b) (numbered p es d)
    ∙ sym (numbers_first (λ e. p (get_or (x ∷ es) e d)) (length es))

pub listed_parity : (p : Edge → Bool) (es : List Edge) (d : Edge)
    → parity p es ≡ parity p (listed es d)
listed_parity p es d = numbered p es d
    ∙ sym (chosen_parity (λ e. true) (length es) (λ e. get_or es e d) p)

pub listed_even : (es : List Edge) (d : Edge) → EvenEnds es → EvenEnds (listed es d)
listed_even es d even p =
    parity_ends (same_point p) (listed es d)
    ∙ sym (listed_parity (λ e. differ (same_point p e.low) (same_point p e.high)) es d)
    ∙ sym (parity_ends (same_point p) es)
    ∙ even p

-- ---- each point is an end of an even number of edges
no_loop : (p : Point) (e : Edge) → (e.low ≡ e.high → ⊥)
    → differ (same_point p e.low) (same_point p e.high)
    ≡ either (same_point p e.low) (same_point p e.high)
no_loop p e n = by_test (same_point p e.low)
    (λ h. by_test (same_point p e.high)
    (λ k. absurd (n (sym (same_is p e.low h) ∙ same_is p e.high k)))
    (λ k. ap (λ b. differ b (same_point p e.high)) h ∙ ap (λ b. differ true b) k
    ∙ sym (ap (λ b. either b (same_point p e.high)) h)))
    (λ h. ap (λ b. differ b (same_point p e.high)) h
    ∙ sym (ap (λ b. either b (same_point p e.high)) h))

pub even_ends : (es : List Edge) → ((e : Edge) → Has e es → e.low ≡ e.high → ⊥)
    → ((p : Point) → Even (tally (λ e. either (same_point p e.low) (same_point p e.high)) es))
    → EvenEnds es
even_ends es n even p =
    parity_ends (same_point p) es
    ∙ parity_map (λ e. differ (same_point p e.low) (same_point p e.high))
    (λ e. either (same_point p e.low) (same_point p e.high)) es (λ e k. no_loop p e (n e k))
    ∙ even_parity (λ e. either (same_point p e.low) (same_point p e.high)) es (even p)

-- ---- the cells on the two sides of a chosen edge have different parities
pub across : (c : ℕ → Bool) (xs : List ℕ) (e : ℕ) (ys : List ℕ)
    → parity_over c (length xs) (xs ++ (e ∷ ys))
    ≡ differ (c e) (parity_over c (suc (length xs)) (xs ++ (e ∷ ys)))
across c [] e ys = refl
across c (x ∷ xs) e ys = across c xs e ys

-- ---- the edges of rings: each chosen edge once, in any order
pub ring_edges : (c : ℕ → Bool) (m : ℕ) (E : ℕ → Edge) (p : Edge → Bool) (ns : List ℕ) → Once ns
    → ((e : ℕ) → Has e ns → (e < m) × (c e ≡ true)) → ((e : ℕ) → e < m → c e ≡ true → Has e ns)
    → parity (λ e. p (E e)) ns ≡ parity p (chosen c m E)
ring_edges c m E p ns once only all =
    sym (members m ns (λ e. p (E e)) once (λ e k. (only e k).0))
    ∙ numbers_map m (λ e. both (among ns e) (p (E e))) (λ e. both (c e) (p (E e)))
    (λ e l. ap (λ b. both b (p (E e))) (by_test (c e)
    (λ h. is_among ns e (all e l h) ∙ sym h)
    (λ h. not_among ns e (λ k. not_both (sym (only e k).1 ∙ h)) ∙ sym h)))
    ∙ sym (chosen_parity c m E p)
