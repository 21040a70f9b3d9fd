-- The value of a text at a scale is what the number that it spells has there.
use Rattle.std.proofs.Common.{◌≡◌, ◌↔◌, ℕ, ◌^◌, ◌<◌, arith, Bool, true, false, cond, ltb, ◌&&◌}
use Rattle.std.proofs.Common.{List, Result, Ok, Err, ℤ, pos, neg_ℤ, ◌<ℤ◌, refl, sym, subst, ◌∙◌}
use Rattle.std.proofs.lemmas.Int.{ints}
use borrow.Author.Tests.{ltb-true, ltb-false, lt-ltb}
use Rattle.decimals.specs.Numerals.{Sign, unsigned, plus, minus, Numeral, Spells, is_digits}
use Rattle.decimals.specs.Numerals.{has_decimals, after_sign, whole_of, point_of, cut}
use Rattle.decimals.specs.Scaled.{decimals_in, magnitude_of, is_exact, with_sign, measured, signed}
use Rattle.decimals.specs.Scaled.{scaled_of, HasValue, SpellsNone, IsTooLong, HasMoreDecimals}
use Rattle.decimals.specs.declared.DecimalFault.{DecimalFault}
use Rattle.decimals.specs.declared.DecimalFault.TheVariants.{NotNumber, TooLong, MoreDecimals}
use Rattle.decimals.proofs.Digits.{both_left, both_right}
use Rattle.decimals.proofs.Parts.{ge-ltb}
use Rattle.decimals.proofs.Spellings.{joined, cut_back}

pub scaled_of_spelled : (bytes : List ℕ) (scale : ℕ) (n : Numeral) → Spells bytes n
    → scaled_of bytes scale ≡ signed n.sign (measured scale n.whole (decimals_in n.point))
unfolding scaled_of
scaled_of_spelled bytes scale n h =
    let a = cut_back bytes n h in
    rw (a.whole, a.point, a.sign, h.whole, h.point) refl

-- Each cause decides the answer.

pub value_decides : (bytes : List ℕ) (scale : ℕ) (v : ℤ) → HasValue bytes scale v
    → scaled_of bytes scale ≡ Ok v
value_decides bytes scale v h =
    scaled_of_spelled bytes scale h.numeral h.spelled
    ∙ rw (lt-ltb (magnitude_of scale h.numeral) (10 ^ 18) h.short, h.exact, h.value) refl

pub too_long_decides : (bytes : List ℕ) (scale : ℕ) → IsTooLong bytes scale
    → scaled_of bytes scale ≡ Err TooLong
too_long_decides bytes scale h =
    scaled_of_spelled bytes scale h.numeral h.spelled
    ∙ rw (ge-ltb (magnitude_of scale h.numeral) (10 ^ 18) h.long) refl

pub more_decimals_decide : (bytes : List ℕ) (scale : ℕ) → HasMoreDecimals bytes scale
    → scaled_of bytes scale ≡ Err MoreDecimals
more_decimals_decide bytes scale h =
    scaled_of_spelled bytes scale h.numeral h.spelled
    ∙ rw (lt-ltb (magnitude_of scale h.numeral) (10 ^ 18) h.short, h.inexact) refl

abbrev is_cut : List ℕ → Bool
is_cut bytes = is_digits (whole_of (after_sign bytes)) && has_decimals (point_of (after_sign bytes))

cut_spelled : (bytes : List ℕ) → is_cut bytes ≡ true → Spells bytes (cut bytes)
cut_spelled bytes e = record {
  text = joined bytes;
  whole = both_left _ _ e;
  point = both_right _ _ e;
}

none_by : (bytes : List ℕ) (scale : ℕ) → is_cut bytes ≡ false
    → scaled_of bytes scale ≡ Err NotNumber
unfolding scaled_of
none_by bytes scale e = rw e refl

pub none_decides : (bytes : List ℕ) (scale : ℕ) → SpellsNone bytes
    → scaled_of bytes scale ≡ Err NotNumber
none_decides bytes scale h =
    elim (is_cut bytes) as (λ t. is_cut bytes ≡ t → scaled_of bytes scale ≡ Err NotNumber) [
      | true ↦ λ e. absurd (h (cut bytes) (cut_spelled bytes e))
      | false ↦ λ e. none_by bytes scale e
    ] refl

-- Each answer has its cause.

abbrev pub Reads : List ℕ → ℕ → Result ℤ DecimalFault → Type 0
Reads bytes scale (Ok v) = HasValue bytes scale v
Reads bytes scale (Err NotNumber) = SpellsNone bytes
Reads bytes scale (Err TooLong) = IsTooLong bytes scale
Reads bytes scale (Err MoreDecimals) = HasMoreDecimals bytes scale

measured_reads : (bytes : List ℕ) (scale : ℕ) (n : Numeral) (short exact : Bool) → Spells bytes n
    → ltb (magnitude_of scale n) (10 ^ 18) ≡ short → is_exact scale (decimals_in n.point) ≡ exact
    → Reads bytes scale
    (signed n.sign
    (cond short (cond exact (Ok (magnitude_of scale n)) (Err MoreDecimals)) (Err TooLong)))
measured_reads bytes scale n true true h l e =
    record {
      numeral = n;
      spelled = h;
      short = ltb-true (magnitude_of scale n) (10 ^ 18) l;
      exact = e;
      value = refl;
    }
measured_reads bytes scale n true false h l e =
    record {
      numeral = n;
      spelled = h;
      short = ltb-true (magnitude_of scale n) (10 ^ 18) l;
      inexact = e;
    }
measured_reads bytes scale n false exact h l e =
    record { numeral = n; spelled = h; long = ltb-false (magnitude_of scale n) (10 ^ 18) l }

not_cut : (bytes : List ℕ) → is_cut bytes ≡ false → SpellsNone bytes
not_cut bytes e n h =
    let a = cut_back bytes n h in
    let t : is_cut bytes ≡ true = rw (a.whole, a.point, h.whole, h.point) refl in
    cc

pub reads : (bytes : List ℕ) (scale : ℕ) → Reads bytes scale (scaled_of bytes scale)
reads bytes scale =
    let P : Result ℤ DecimalFault → Type 0 = λ r. Reads bytes scale r in
    elim (is_cut bytes) as (λ t. is_cut bytes ≡ t → Reads bytes scale (scaled_of bytes scale)) [
      | true ↦ λ e. let h = cut_spelled bytes e in
          subst P (sym (scaled_of_spelled bytes scale (cut bytes) h))
          (measured_reads bytes scale (cut bytes) _ _ h refl refl)
      | false ↦ λ e. subst P (sym (none_by bytes scale e)) (not_cut bytes e)
    ] refl

-- Answer and cause together.

pub read_so : (bytes : List ℕ) (scale : ℕ) (r s : Result ℤ DecimalFault) → r ≡ scaled_of bytes scale
    → r ≡ s → Reads bytes scale s
read_so bytes scale r s h e =
    let P : Result ℤ DecimalFault → Type 0 = λ x. Reads bytes scale x in
    subst P (sym h ∙ e) (reads bytes scale)

pub value_exactly : (bytes : List ℕ) (scale : ℕ) (r : Result ℤ DecimalFault)
    → r ≡ scaled_of bytes scale → (v : ℤ) → (r ≡ Ok v) ↔ HasValue bytes scale v
value_exactly bytes scale r h v =
    (λ e. read_so bytes scale r (Ok v) h e, λ k. h ∙ value_decides bytes scale v k)

pub not_number_exactly : (bytes : List ℕ) (scale : ℕ) (r : Result ℤ DecimalFault)
    → r ≡ scaled_of bytes scale → (r ≡ Err NotNumber) ↔ SpellsNone bytes
not_number_exactly bytes scale r h =
    (λ e. read_so bytes scale r (Err NotNumber) h e, λ k. h ∙ none_decides bytes scale k)

pub too_long_exactly : (bytes : List ℕ) (scale : ℕ) (r : Result ℤ DecimalFault)
    → r ≡ scaled_of bytes scale → (r ≡ Err TooLong) ↔ IsTooLong bytes scale
too_long_exactly bytes scale r h =
    (λ e. read_so bytes scale r (Err TooLong) h e, λ k. h ∙ too_long_decides bytes scale k)

pub more_decimals_exactly : (bytes : List ℕ) (scale : ℕ) (r : Result ℤ DecimalFault)
    → r ≡ scaled_of bytes scale → (r ≡ Err MoreDecimals) ↔ HasMoreDecimals bytes scale
more_decimals_exactly bytes scale r h =
    (λ e. read_so bytes scale r (Err MoreDecimals) h e, λ k. h ∙ more_decimals_decide bytes scale k)

pub value_is_unique : (bytes : List ℕ) (scale : ℕ) (v w : ℤ) → HasValue bytes scale v
    → HasValue bytes scale w → v ≡ w
value_is_unique bytes scale v w h k =
    let a = value_decides bytes scale v h in
    let b = value_decides bytes scale w k in
    cc

-- a value has at most 18 digits
with_sign_within : (sign : Sign) (m : ℕ) → m < 10 ^ 18
    → (neg_ℤ (pos (10 ^ 18)) <ℤ with_sign sign m) × (with_sign sign m <ℤ pos (10 ^ 18))
with_sign_within unsigned m h = (omega (arith, ints), omega (arith, ints))
with_sign_within plus m h = (omega (arith, ints), omega (arith, ints))
with_sign_within minus m h = (omega (arith, ints), omega (arith, ints))

pub value_is_short : (bytes : List ℕ) (scale : ℕ) (v : ℤ) → HasValue bytes scale v
    → (neg_ℤ (pos (10 ^ 18)) <ℤ v) × (v <ℤ pos (10 ^ 18))
value_is_short bytes scale v h =
    rw h.value (with_sign_within h.numeral.sign (magnitude_of scale h.numeral) h.short)
