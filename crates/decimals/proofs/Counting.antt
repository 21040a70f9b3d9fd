-- Counting digits up to 10^18.
use Rattle.std.proofs.Common.{◌≡◌, ℕ, ◌+◌, ◌*◌, ◌-◌, ◌^◌, ◌≤◌, ◌<◌, min, Bool, true, false, cond}
use Rattle.std.proofs.Common.{ltb, List, ◌∷◌, length, suc, drop, get_or, add-one, Ok, Err, refl, ap}
use Rattle.std.proofs.Common.{◌∙◌, arith}
use Rattle.std.proofs.Math.Nat.{pow-succ', add-mul, mul_assoc, one-le-pow, min-eq_left}
use Rattle.std.proofs.Math.Nat.{min-eq_right}
use Rattle.std.proofs.lemmas.Nat.{mul-le}
use borrow.Author.Tests.{ltb-true, ltb-false}
use Rattle.std.proofs.Math.Seq.{drop-cons}
use Rattle.std.specs.Char.{is_ascii_digit}
use Rattle.std.specs.Str.{all_ascii_digits}
use Rattle.decimals.specs.Numerals.{number}
use Rattle.decimals.specs.Counted.{counted}
use Rattle.decimals.specs.declared.DecimalFault.TheVariants.{NotNumber}

-- a factor that is cut off gives the same product, cut off
above : (a p x : ℕ) → 1 ≤ p → 10 ^ 18 ≤ a → 10 ^ 18 ≤ a * p + x
above a p x h k = omega (arith, mul-le (10 ^ 18) 1 a p k h)

capped_by : (a p x : ℕ) → 1 ≤ p → (b : Bool) → ltb a (10 ^ 18) ≡ b
    → min (min a (10 ^ 18) * p + x) (10 ^ 18) ≡ min (a * p + x) (10 ^ 18)
capped_by a p x h true e =
    rw (min-eq_left {n = a} {m = 10 ^ 18} (omega (arith, ltb-true a (10 ^ 18) e))) refl
capped_by a p x h false e =
    let k : 10 ^ 18 ≤ a = omega (arith, ltb-false a (10 ^ 18) e) in
    rw (
      min-eq_right {n = 10 ^ 18} {m = a} k,
      min-eq_right (above (10 ^ 18) p x h (omega arith)),
      min-eq_right (above a p x h k),
    ) refl

pub capped : (a p x : ℕ) → 1 ≤ p
    → min (min a (10 ^ 18) * p + x) (10 ^ 18) ≡ min (a * p + x) (10 ^ 18)
capped a p x h = capped_by a p x h _ refl

-- one more digit
shift : (m d k x : ℕ) → (m * 10 + d) * 10 ^ k + x ≡ m * 10 ^ suc k + (d * 10 ^ k + x)
shift m d k x =
    rw (pow-succ' 10 k) (omega (arith, add-mul (m * 10) d (10 ^ k), mul_assoc m 10 (10 ^ k)))

pub counted-cons : (m c : ℕ) (cs : List ℕ) → is_ascii_digit c ≡ true
    → counted (min (m * 10 + (c - 48)) (10 ^ 18)) cs ≡ counted m (c ∷ cs)
counted-cons m c cs h =
    rw h (ap (λ (n : ℕ). cond (all_ascii_digits cs) (Ok n) (Err NotNumber))
    (capped (m * 10 + (c - 48)) (10 ^ length cs) (number cs)
    (one-le-pow (length cs) 10 (omega arith))
    ∙ ap (λ (n : ℕ). min n (10 ^ 18)) (shift m (c - 48) (length cs) (number cs))))

pub counted_next : (m r i from : ℕ) (ds : List ℕ) → i < length ds
    → is_ascii_digit (get_or ds i 0) ≡ true
    → r ≡ min (m * 10 + (get_or ds i 0 - 48)) (10 ^ 18) → counted m (drop i ds) ≡ counted from ds
    → counted r (drop (i + 1) ds) ≡ counted from ds
counted_next m r i from ds l h e rest =
    let t = rw (drop-cons ds i 0 l) at rest in
    rw (e, add-one i) (counted-cons m (get_or ds i 0) (drop (suc i) ds) h ∙ t)
