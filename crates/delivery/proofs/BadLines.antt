-- A text that spells no list of certificates has one first bad line.
use Rattle.std.proofs.Common.{◌≡◌, ℕ, zero, suc, ◌<◌, ◌≤◌, Bool, true, false, cond, nat_eq, List}
use Rattle.std.proofs.Common.{[], ◌∷◌, ◌++◌, length, refl, sym, ap, subst, ◌∙◌, append_assoc, arith}
use Rattle.std.proofs.lemmas.List.{length-append}
use Rattle.straight_predicates.proofs.Orders.{by_lt}
use Rattle.certificate.specs.Spelling.{Spells}
use Rattle.certificate.specs.FirstBad.{Begin, IsFirstBad, IsTooShort, first_lines, lf_count}
use Rattle.certificate.proofs.FirstLines.{behind_lines}
use Rattle.delivery.specs.Verifying.{IsBadLine, bad, missing}

-- the front of what begins a text begins it too
front_begins : (front rest : List ℕ) → Begin (front ++ rest) → Begin front
front_begins front rest b = record {
  list = b.list;
  spelt = b.spelt;
  rest = rest ++ b.rest;
  is = subst (λ bytes. Spells bytes b.list) (append_assoc front rest b.rest) b.is;
}

-- fewer first lines are the front of more
fewer_lines : (n m : ℕ) (bytes : List ℕ) → n ≤ m
    → (rest : List ℕ) × (first_lines m bytes ≡ first_lines n bytes ++ rest)
fewer_lines zero m bytes h = (first_lines m bytes, refl)
fewer_lines (suc n) zero bytes h = absurd (omega (arith, h))
fewer_lines (suc n) (suc m) [] h = ([], refl)
fewer_lines (suc n) (suc m) (c ∷ bytes) h =
    by_end (nat_eq c 10) (fewer_lines n m bytes (omega (arith, h)))
    (fewer_lines (suc n) (suc m) bytes h)
  where
    by_end : (b : Bool) → ((rest : List ℕ) × (first_lines m bytes ≡ first_lines n bytes ++ rest))
        → ((rest : List ℕ) × (first_lines (suc m) bytes ≡ first_lines (suc n) bytes ++ rest))
        → (rest : List ℕ)
        × (c ∷ cond b (first_lines m bytes) (first_lines (suc m) bytes)
        ≡ (c ∷ cond b (first_lines n bytes) (first_lines (suc n) bytes)) ++ rest)
    by_end true r q = (r.0, ap (λ (x : List ℕ). c ∷ x) r.1)
    by_end false r q = (q.0, ap (λ (x : List ℕ). c ∷ x) q.1)

-- n lines have no more than n LF
few_lf : (n : ℕ) (bytes : List ℕ) → lf_count (first_lines n bytes) ≤ n
few_lf zero bytes = omega arith
few_lf (suc n) [] = omega arith
few_lf (suc n) (c ∷ bytes) = by_end (nat_eq c 10) refl (few_lf n bytes) (few_lf (suc n) bytes)
  where
    by_end : (b : Bool) → nat_eq c 10 ≡ b → lf_count (first_lines n bytes) ≤ n
        → lf_count (first_lines (suc n) bytes) ≤ suc n
        → cond (nat_eq c 10)
        (suc (lf_count (cond b (first_lines n bytes) (first_lines (suc n) bytes))))
        (lf_count (cond b (first_lines n bytes) (first_lines (suc n) bytes))) ≤ suc n
    by_end true e h k = rw e (omega (arith, h))
    by_end false e h k = rw e k

-- a line after the first bad one ends no front of a text
not_later : (bytes : List ℕ) (n m : ℕ) → n < m → m ≤ lf_count bytes → Begin (first_lines m bytes)
    → IsFirstBad bytes n → ⊥
not_later bytes n m l w b f =
    let r = fewer_lines (suc n) m bytes (omega (arith, l)) in
    f.bad (omega (arith, l, w)) (front_begins (first_lines (suc n) bytes) r.0 (subst Begin r.1 b))

one_first_bad : (bytes : List ℕ) (n m : ℕ) → IsFirstBad bytes n → IsFirstBad bytes m → n ≡ m
one_first_bad bytes n m f g =
    by_lt n m (λ (l : n < m). absurd (not_later bytes n m l g.whole g.begin f))
    (λ (l : m ≤ n). by_lt m n (λ (k : m < n). absurd (not_later bytes m n k f.whole f.begin g))
    (λ (k : n ≤ m). omega (arith, l, k)))

-- where all bytes begin a text no line is bad
short_not_bad : (bytes : List ℕ) (n m : ℕ) → IsFirstBad bytes n → IsTooShort bytes m → ⊥
short_not_bad bytes n m f s =
    by_lt n (lf_count bytes)
    (λ (l : n < lf_count bytes). (let r = behind_lines (suc n) bytes in
    f.bad l (front_begins (first_lines (suc n) bytes) r.0 (subst Begin r.1 s.begin))))
    (λ (l : lf_count bytes ≤ n). (
    let w = s.whole in
    let r = fewer_lines m n bytes (omega (arith, l, w)) in
    let t = f.there in
    let e = ap length r.1 in
    let p = length-append (first_lines m bytes) r.0 in
    let a = ap length s.all in
    omega (arith, t, e, p, a)))

one_too_short : (bytes : List ℕ) (n m : ℕ) → IsTooShort bytes n → IsTooShort bytes m → n ≡ m
one_too_short bytes n m f g =
    let a = few_lf n bytes in
    let b = few_lf m bytes in
    let p = ap lf_count f.all in
    let q = ap lf_count g.all in
    let v = f.whole in
    let w = g.whole in
    omega (arith, a, b, p, q, v, w)

pub one_bad_line : (text : List ℕ) (m n : ℕ) → IsBadLine text m → IsBadLine text n → m ≡ n
one_bad_line text m n (bad i f e) (bad j g h) = e ∙ ap suc (one_first_bad text i j f g) ∙ sym h
one_bad_line text m n (bad i f e) (missing j g h) = absurd (short_not_bad text i j f g)
one_bad_line text m n (missing i f e) (bad j g h) = absurd (short_not_bad text j i g f)
one_bad_line text m n (missing i f e) (missing j g h) =
    e ∙ ap suc (one_too_short text i j f g) ∙ sym h
