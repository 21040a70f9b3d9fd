-- The magnitude of digits and decimals.
use Rattle.std.proofs.Common.{◌≡◌, ℕ, ◌*◌, ◌-◌, ◌^◌, ◌≤◌, ◌<◌, min, Bool, true, false, cond, ltb}
use Rattle.std.proofs.Common.{eqb, ◌&&◌, List, ◌++◌, length, take, drop, Result, Ok, Err, refl, sym}
use Rattle.std.proofs.Common.{ap, ◌∙◌, arith}
use Rattle.std.proofs.Math.Nat.{one-le-pow, min-eq_left, min-eq_right}
use Rattle.std.proofs.Math.Seq.{drop-length}
use Rattle.std.proofs.Math.ListN.{drop_of_length-le}
use Rattle.std.proofs.lemmas.List.{take_all}
use Rattle.std.proofs.lemmas.Bool.Decides.{nat_tests}
use borrow.Author.Tests.{ltb-true, ltb-false, lt-ltb}
use Rattle.std.specs.List.{list_all}
use Rattle.std.specs.Str.{all_ascii_digits}
use Rattle.decimals.specs.Numerals.{number, is_digits}
use Rattle.decimals.specs.Scaled.{measured}
use Rattle.decimals.specs.Counted.{counted, parts_of, settled}
use Rattle.decimals.proofs.Counting.{capped}
use Rattle.decimals.proofs.Digits.{number-append, digits_cut, zeros}
use Rattle.decimals.specs.declared.DecimalFault.{DecimalFault}
use Rattle.decimals.specs.declared.DecimalFault.TheVariants.{NotNumber, TooLong, MoreDecimals}

ok_is : (b : Bool) (x r : ℕ) → cond b (Ok x) (Err NotNumber) ≡ Ok r → (b ≡ true) × (x ≡ r)
ok_is true x r h = (refl, cc)
ok_is false x r h = cc

err_is : (b : Bool) (x : ℕ) (e : DecimalFault) → cond b (Ok x) (Err NotNumber) ≡ Err e
    → (b ≡ false) × (e ≡ NotNumber)
err_is true x e h = cc
err_is false x e h = (refl, cc)

-- a byte that is no digit, in either part of the decimals
no_decimals : (b : Bool) (r : Result ℕ DecimalFault)
    → cond (b && false) r (Err NotNumber) ≡ Err NotNumber
no_decimals true r = refl
no_decimals false r = refl

pub no_number : (scale : ℕ) (whole decimals : List ℕ) → all_ascii_digits decimals ≡ false
    → parts_of scale whole decimals ≡ Err NotNumber
no_number scale whole decimals h =
    rw h (no_decimals (is_digits whole) (measured scale whole decimals))

not_both : (a b c : Bool) → c ≡ (a && b) → a ≡ false → c ≡ false
not_both true b c e h = cc
not_both false b c e h = e

not_both_right : (a b c : Bool) → c ≡ (a && b) → b ≡ false → c ≡ false
not_both_right true b c e h = e ∙ h
not_both_right false b c e h = e

pub no_kept : (scale n from : ℕ) (whole decimals : List ℕ) (e : DecimalFault)
    → counted from (take n decimals) ≡ Err e → parts_of scale whole decimals ≡ Err e
no_kept scale n from whole decimals e h =
    let k = err_is (all_ascii_digits (take n decimals)) _ e h in
    no_number scale whole decimals (not_both _ _ _ (digits_cut n decimals) k.0)
    ∙ ap (λ (f : DecimalFault). Err f) (sym k.1)

pub no_surplus : (scale n from : ℕ) (whole decimals : List ℕ) (e : DecimalFault)
    → counted from (drop n decimals) ≡ Err e → parts_of scale whole decimals ≡ Err e
no_surplus scale n from whole decimals e h =
    let k = err_is (all_ascii_digits (drop n decimals)) _ e h in
    no_number scale whole decimals (not_both_right _ _ _ (digits_cut n decimals) k.0)
    ∙ ap (λ (f : DecimalFault). Err f) (sym k.1)

-- the decimals cut at the scale, or at their end where they are fewer
pub record IsCut (scale n : ℕ) (ds : List ℕ) : Type 0 where
  pub kept : take n ds ≡ take scale ds
  pub surplus : drop n ds ≡ drop scale ds
  pub missing : scale - n ≡ scale - length ds

cut_by : (scale : ℕ) (ds : List ℕ) (b : Bool) → ltb (length ds) scale ≡ b
    → IsCut scale (min (length ds) scale) ds
cut_by scale ds true e =
    let l : length ds ≤ scale = omega (arith, ltb-true (length ds) scale e) in
    rw (min-eq_left l) (record {
      kept = take_all (length ds) ds (omega arith) ∙ sym (take_all scale ds l);
      surplus = drop-length ds ∙ sym (drop_of_length-le ds l);
      missing = refl;
    })
cut_by scale ds false e =
    let l : scale ≤ length ds = ltb-false (length ds) scale e in
    rw (min-eq_right l) (record { kept = refl; surplus = refl; missing = omega arith })

cut_is : (scale n : ℕ) (ds : List ℕ) → n ≡ min (length ds) scale → IsCut scale n ds
cut_is scale n ds e = rw e (cut_by scale ds _ refl)

pub ge-ltb : (a b : ℕ) → b ≤ a → ltb a b ≡ false
ge-ltb a b h = grind (arith, nat_tests)

-- what was counted decides as the magnitude does
decided : (M m : ℕ) (x y : Bool) → (m < 10 ^ 18 → m ≡ M) → (10 ^ 18 ≤ m → 10 ^ 18 ≤ M) → x ≡ y
    → cond (ltb M (10 ^ 18)) (cond x (Ok M) (Err MoreDecimals)) (Err TooLong)
    ≡ cond (ltb m (10 ^ 18)) (cond y (Ok m) (Err MoreDecimals)) (Err TooLong)
decided M m x y f g e =
    elim (ltb m (10 ^ 18)) as (λ t. ltb m (10 ^ 18) ≡ t
    → cond (ltb M (10 ^ 18)) (cond x (Ok M) (Err MoreDecimals)) (Err TooLong)
    ≡ cond t (cond y (Ok m) (Err MoreDecimals)) (Err TooLong)) [
      | true ↦ λ h. let k = f (ltb-true m (10 ^ 18) h) in rw (← k, h, e) refl
      | false ↦ λ h. rw (ge-ltb M (10 ^ 18) (g (ltb-false m (10 ^ 18) h))) refl
    ] refl

decided_by : (N P m : ℕ) (x y : Bool) → 1 ≤ P → m ≡ min (min N (10 ^ 18) * P) (2 ^ 64 - 1) → x ≡ y
    → cond (ltb (N * P) (10 ^ 18)) (cond x (Ok (N * P)) (Err MoreDecimals)) (Err TooLong)
    ≡ cond (ltb m (10 ^ 18)) (cond y (Ok m) (Err MoreDecimals)) (Err TooLong)
decided_by N P m x y h e k =
    let c = capped N P 0 h in
    decided (N * P) m x y (λ l. omega (arith, c, e)) (λ l. omega (arith, c, e)) k

-- the digits that were counted in two steps
counted_twice : (w d : ℕ) (whole kept : List ℕ) → counted 0 whole ≡ Ok w → counted w kept ≡ Ok d
    → (all_ascii_digits whole ≡ true) × (all_ascii_digits kept ≡ true)
    × (d ≡ min (number (whole ++ kept)) (10 ^ 18))
counted_twice w d whole kept h k =
    let a = ok_is (all_ascii_digits whole) _ w h in
    let b = ok_is (all_ascii_digits kept) _ d k in
    let n : w ≡ min (number whole) (10 ^ 18) = omega (arith, a.1) in
    let c = capped (number whole) (10 ^ length kept) (number kept)
    (one-le-pow (length kept) 10 (omega arith)) in
    (a.0, b.0, rw (number-append whole kept) (sym b.1 ∙ rw n c))

exact_by : (p : ℕ) (ds : List ℕ) → counted 0 ds ≡ Ok p
    → (all_ascii_digits ds ≡ true) × (list_all (λ c. eqb c 48) ds ≡ eqb p 0)
exact_by p ds h =
    let a = ok_is (all_ascii_digits ds) _ p h in
    let n : p ≡ min (number ds) (10 ^ 18) = omega (arith, a.1) in
    (a.0, zeros ds a.0 ∙ rw n (grind (arith, nat_tests)))

is_number : (whole decimals : List ℕ) → 0 < length whole → all_ascii_digits whole ≡ true
    → all_ascii_digits decimals ≡ true → (is_digits whole && all_ascii_digits decimals) ≡ true
is_number whole decimals l a b = rw (lt-ltb 0 (length whole) l, a, b) refl

pub parts_value : (scale n w d p m : ℕ) (whole decimals : List ℕ) → 0 < length whole
    → n ≡ min (length decimals) scale
    → counted 0 whole ≡ Ok w → counted w (take n decimals) ≡ Ok d
    → counted 0 (drop n decimals) ≡ Ok p → m ≡ min (d * 10 ^ (scale - n)) (2 ^ 64 - 1)
    → parts_of scale whole decimals ≡ settled m p
parts_value scale n w d p m whole decimals l e h k q v =
    let cut = cut_is scale n decimals e in
    let t = counted_twice w d whole (take n decimals) h k in
    let s = exact_by p (drop n decimals) q in
    let all : all_ascii_digits decimals ≡ true = digits_cut n decimals ∙ rw (t.1, s.0) refl in
    rw (is_number whole decimals l t.0 all, ← cut.kept, ← cut.surplus, ← cut.missing)
    (decided_by (number (whole ++ take n decimals)) (10 ^ (scale - n)) m _ _
    (one-le-pow (scale - n) 10 (omega arith)) (rw (← t.2) v) s.1)
