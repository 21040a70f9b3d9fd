-- A text without a point, at scale 0.
use Rattle.std.proofs.Common.{◌≡◌, ℕ, ◌*◌, ◌-◌, ◌^◌, Bool, true, false, cond, ltb, eqb, ◌&&◌, ◌||◌}
use Rattle.std.proofs.Common.{List, [], ◌∷◌, ◌++◌, length, take, drop, None, Result, Ok, Err, refl}
use Rattle.std.proofs.Common.{sym, ap, ◌∙◌, arith, append-nil}
use Rattle.decimals.specs.Numerals.{Sign, unsigned, plus, minus, Numeral, Spells, is_digits, number}
use Rattle.decimals.specs.Numerals.{sign_bytes, sign_of, after_sign, whole_of, point_of}
use Rattle.decimals.specs.Scaled.{measured, signed, scaled_of}
use Rattle.decimals.specs.WholeNumbers.{holds_point, whole_number_of}
use Rattle.decimals.specs.declared.DecimalFault.{DecimalFault}
use Rattle.decimals.specs.declared.DecimalFault.TheVariants.{NotNumber, TooLong, MoreDecimals}
use Rattle.decimals.proofs.Spellings.{cut_back}

neither : (a b : Bool) → (a || b) ≡ false → (a ≡ false) × (b ≡ false)
neither true b h = cc
neither false b h = (refl, h)

uncut : (bytes : List ℕ) → holds_point bytes ≡ false
    → (whole_of bytes ≡ bytes) × (point_of bytes ≡ None)
uncut [] h = (refl, refl)
uncut (c ∷ cs) h =
    let n = neither (eqb c 46) (holds_point cs) h in
    let t = uncut cs n.1 in
    (rw n.0 (ap (λ (ds : List ℕ). c ∷ ds) t.0), rw n.0 (t.1))

tail_free : (c : ℕ) (cs : List ℕ) (p m : Bool) → holds_point (c ∷ cs) ≡ false
    → holds_point (drop (length (sign_bytes (cond p plus (cond m minus unsigned)))) (c ∷ cs))
    ≡ false
tail_free c cs true m h = (neither (eqb c 46) (holds_point cs) h).1
tail_free c cs false true h = (neither (eqb c 46) (holds_point cs) h).1
tail_free c cs false false h = h

free_after_sign : (bytes : List ℕ) → holds_point bytes ≡ false
    → holds_point (after_sign bytes) ≡ false
free_after_sign [] h = refl
free_after_sign (c ∷ cs) h = tail_free c cs _ _ h

same_magnitude : (whole : List ℕ) → number (whole ++ take 0 []) * 10 ^ (0 - length {A = ℕ} [])
    ≡ number whole
same_magnitude whole = rw (append-nil whole) (omega arith)

plain_by : (b : Bool) (whole : List ℕ) → cond (b && true) (measured 0 whole []) (Err NotNumber)
    ≡ cond b (cond (ltb (number whole) (10 ^ 18)) (Ok (number whole)) (Err TooLong)) (Err NotNumber)
plain_by true whole = rw (same_magnitude whole) refl
plain_by false whole = refl

pub scaled_of_whole_number : (bytes : List ℕ) → holds_point bytes ≡ false
    → scaled_of bytes 0 ≡ whole_number_of bytes
unfolding scaled_of
scaled_of_whole_number bytes h =
    let u = uncut (after_sign bytes) (free_after_sign bytes h) in
    rw (u.0, u.1)
    (ap (λ (r : Result ℕ DecimalFault). signed (sign_of bytes) r)
    (plain_by (is_digits (after_sign bytes)) (after_sign bytes)))

-- no whole number has too many decimals
fault_stays : (sign : Sign) (b c : Bool) (m : ℕ)
    → signed sign (cond b (cond c (Ok m) (Err TooLong)) (Err NotNumber)) ≡ Err MoreDecimals → ⊥
fault_stays sign true true m h = cc
fault_stays sign true false m h = cc
fault_stays sign false c m h = cc

pub whole_number_is_exact : (bytes : List ℕ) → whole_number_of bytes ≡ Err MoreDecimals → ⊥
whole_number_is_exact bytes h = fault_stays (sign_of bytes) _ _ _ h

-- a number without a point has no decimals
pub spelled_whole : (bytes : List ℕ) (n : Numeral) → holds_point bytes ≡ false → Spells bytes n
    → n.point ≡ None
spelled_whole bytes n h s = sym (cut_back bytes n s).point
    ∙ (uncut (after_sign bytes) (free_after_sign bytes h)).1
