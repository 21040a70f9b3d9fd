-- Powers of ten.
use Rattle.std.proofs.Common.{◌≡◌, ℕ, zero, suc, ◌+◌, ◌-◌, ◌*◌, ◌^◌, ◌<◌, ◌≤◌, pos, neg_ℤ, nat_abs}
use Rattle.std.proofs.Common.{nat_eq, codes, List, [], ◌∷◌, take, Bool, true, false, cond, count_by}
use Rattle.std.proofs.Common.{refl, sym, subst, arith}
use Rattle.std.specs.Prelude.{if◌then◌else◌}
use Rattle.std.specs.List.{starts_with}
use Rattle.std.proofs.lemmas.Bool.Decides.{nat_tests}
use Rattle.ili_grammar.specs.Numbers.{read_from, signed}
use Rattle.std.proofs.lemmas.List.Sums.{sum_by-take-le, sum_by-append}
use Rattle.std.proofs.Math.Nat.{pow-suc}
use Rattle.std.specs.Char.{is_ascii_digit}

ten_more : (i m : ℕ) → 10 ^ i ≤ 10 ^ (m + i)
ten_more i zero =
    let e : i ≡ 0 + i = omega arith in subst (λ (n : ℕ). 10 ^ i ≤ 10 ^ n) e (omega arith)
ten_more i (suc m) =
    let h = ten_more i m in
    let e : suc (m + i) ≡ suc m + i = omega arith in
    subst (λ (n : ℕ). 10 ^ i ≤ 10 ^ n) e (rw (pow-suc 10 (m + i)) (omega arith))

ten_less : (k m : ℕ) → k ≤ m → 10 ^ k ≤ 10 ^ m
ten_less k m h =
    let e : (m - k) + k ≡ m = omega arith in
    subst (λ (n : ℕ). 10 ^ k ≤ 10 ^ n) e (ten_more k (m - k))

digits_cons : (b : ℕ) (bs : List ℕ)
    → count_by is_ascii_digit (b ∷ bs) ≡ cond (is_ascii_digit b) 1 0 + count_by is_ascii_digit bs
digits_cons b bs =
    let e = sum_by-append (λ (x : ℕ). cond (is_ascii_digit x) 1 0) (b ∷ []) bs in
    let h : count_by is_ascii_digit (b ∷ []) ≡ 0 + cond (is_ascii_digit b) 1 0 = refl in
    omega (arith, e, h)

-- reading on, a number gains a digit for each digit
read_less : (bs : List ℕ) (n k : ℕ) → n < 10 ^ k
    → read_from n bs < 10 ^ (k + count_by is_ascii_digit bs)
read_less [] n k h = let e : k + 0 ≡ k = omega arith in subst (λ (m : ℕ). n < 10 ^ m) (sym e) h
read_less (b ∷ bs) n k h = of (λ m l g. read_less bs m l g) (is_ascii_digit b) refl
  where
    one : is_ascii_digit b ≡ true → ◌≡◌ {A = ℕ} (cond (is_ascii_digit b) 1 0) 1
    one e = rw e refl

    none : is_ascii_digit b ≡ false → ◌≡◌ {A = ℕ} (cond (is_ascii_digit b) 1 0) 0
    none e = rw e refl

    less : (b : ℕ) → is_ascii_digit b ≡ true → b - 48 < 10
    less b e = grind (arith, nat_tests)

    of : ((m l : ℕ) → m < 10 ^ l → read_from m bs < 10 ^ (l + count_by is_ascii_digit bs))
        → (t : Bool) → is_ascii_digit b ≡ t
        → read_from (cond t ((n * 10) + (b - 48)) n) bs < 10 ^
        (k + count_by is_ascii_digit (b ∷ bs))
    of more true e =
        let c : (k + count_by is_ascii_digit (b ∷ bs))
        ≡ suc k + count_by is_ascii_digit bs = let d = digits_cons b bs in
        let f = one e in omega (arith, d, f) in
        subst (λ (m : ℕ). read_from ((n * 10) + (b - 48)) bs < 10 ^ m) (sym c)
        (more ((n * 10) + (b - 48)) (suc k) (rw (pow-suc 10 k) (omega (arith, less b e, h))))
    of more false e =
        let c : (k + count_by is_ascii_digit (b ∷ bs))
        ≡ k + count_by is_ascii_digit bs = let d = digits_cons b bs in
        let f = none e in omega (arith, d, f) in
        subst (λ (m : ℕ). read_from n bs < 10 ^ m) (sym c) (more n k h)

pub small_number : (bs : List ℕ) → count_by is_ascii_digit bs ≤ 18 → nat_abs (signed bs) < 10 ^ 18
small_number bs h = of (starts_with nat_eq bs (codes "-"))
  where
    less : read_from 0 bs < 10 ^ 18
    less = omega (
      arith,
      read_less bs 0 0 (omega arith),
      ten_less (0 + count_by is_ascii_digit bs) 18 (omega (arith, h)),
    )

    minus : (n : ℕ) → n < 10 ^ 18 → nat_abs (neg_ℤ (pos n)) < 10 ^ 18
    minus zero l = l
    minus (suc n) l = l

    of : (b : Bool)
        → nat_abs (if b then neg_ℤ (pos (read_from 0 bs)) else pos (read_from 0 bs)) < 10 ^ 18
    of true = minus (read_from 0 bs) less
    of false = less

-- a number with at most 18 digits so far
pub small : (bytes : List ℕ) (i n : ℕ) → count_by is_ascii_digit bytes ≤ 18
    → n < 10 ^ count_by is_ascii_digit (take i bytes) → n < 10 ^ 18
small bytes i n h g =
    let k = count_by is_ascii_digit (take i bytes) in
    let le : k ≤ 18 = omega (arith, h, sum_by-take-le (λ x. cond (is_ascii_digit x) 1 0) bytes i) in
    let m = 18 - k in
    let e : m + k ≡ 18 = omega arith in
    omega (arith, g, subst (λ (n : ℕ). 10 ^ k ≤ 10 ^ n) e (ten_more k m))
