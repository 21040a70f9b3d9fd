-- The parts of a value as it is written: how long they are, and which numbers they write.
use Rattle.std.proofs.Common.{◌≡◌, ℕ, zero, suc, false, eqb, ◌++◌, replicate, unsigned_abs}
use Rattle.std.proofs.Common.{length-append, ◌+◌, ◌-◌, ◌*◌, ◌/◌, ◌%◌, ◌^◌, ◌<◌, ◌≤◌, length}
use Rattle.std.proofs.Common.{decimal, ℤ, pos, negsuc, ap, ◌∙◌, arith, pow-add}
use Rattle.std.proofs.Math.Nat.{one-le-pow, div-lt_iff_lt-mul, mod-lt, div-le_self, mod-le}
use Rattle.std.proofs.lemmas.Fmt.{length-decimal-le}
use Rattle.std.proofs.lemmas.Bool.Decides.{nat_tests}
use Rattle.std.proofs.lemmas.List.{length-replicate}
use Rattle.decimals.specs.Numerals.{sign_bytes, point_bytes}
use Rattle.decimals.specs.Written.{written_sign, written_point, spelling_of}

pub power_positive : (scale : ℕ) → 0 < 10 ^ scale
power_positive scale = omega (arith, one-le-pow scale 10 (omega arith))

pub sign_short : (value : ℤ) → length (sign_bytes (written_sign value)) ≤ 1
sign_short (pos n) = omega arith
sign_short (negsuc n) = omega arith

pub not_none : (k : ℕ) → eqb (suc k) 0 ≡ false
not_none k = grind (arith, nat_tests)

whole_below : (m scale : ℕ) → m < 10 ^ 18 → scale ≤ 9 → m / 10 ^ scale < 10 ^ (18 - scale)
whole_below m scale h k =
    let e : 10 ^ 18 ≡ 10 ^ (18 - scale)
    * 10 ^ scale = ap (λ (n : ℕ). 10 ^ n) {x = 18} {y = 18 - scale + scale} (omega arith)
    ∙ pow-add 10 (18 - scale) scale in
    (div-lt_iff_lt-mul (power_positive scale)).1 (omega (arith, e, h))

pub whole_short : (m scale : ℕ) → m < 10 ^ 18 → scale ≤ 9
    → length (decimal (m / 10 ^ scale)) ≤ 18 - scale
whole_short m scale h k =
    length-decimal-le (18 - scale) (m / 10 ^ scale) (omega arith) (whole_below m scale h k)
    (omega (arith, h, div-le_self m (10 ^ scale)))

pub decimals_short : (m scale : ℕ) → m < 10 ^ 18 → 0 < scale
    → length (decimal (m % 10 ^ scale)) ≤ scale
decimals_short m scale h k =
    length-decimal-le scale (m % 10 ^ scale) k (mod-lt m (power_positive scale))
    (omega (arith, h, mod-le m (10 ^ scale)))

point_short : (scale m : ℕ) → m < 10 ^ 18
    → length (point_bytes (written_point scale (m % 10 ^ scale))) ≤ 1 + scale
point_short zero m h = omega arith
point_short (suc k) m h =
    let n = m % 10 ^ suc k in
    let l = decimals_short m (suc k) h (omega arith) in
    let z = suc k - length (decimal n) in
    rw (not_none k)
    (omega (
      arith,
      l,
      length-append (replicate z 48) (decimal n),
      length-replicate {A = ℕ} z 48,
    ))

pub spelling_short : (value : ℤ) (scale : ℕ) → unsigned_abs value < 10 ^ 18 → scale ≤ 9
    → length (spelling_of value scale) ≤ 20
spelling_short value scale h k =
    let m = unsigned_abs value in
    let sign = sign_bytes (written_sign value) in
    let whole = decimal (m / 10 ^ scale) in
    let point = point_bytes (written_point scale (m % 10 ^ scale)) in
    omega (
      arith,
      k,
      sign_short value,
      whole_short m scale h k,
      point_short scale m h,
      length-append sign (whole ++ point),
      length-append whole point,
    )
