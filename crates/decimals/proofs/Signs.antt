-- A sign before a magnitude.
use Rattle.std.proofs.Common.{◌≡◌, ◌≢◌, ◌↔◌, IsTrue, Bool, true, false, cond, ℕ, List, Ok, Err, pos}
use Rattle.std.proofs.Common.{neg_ℤ, refl}
use Rattle.decimals.specs.Numerals.{Sign, unsigned, plus, minus, sign_of, after_sign}
use Rattle.decimals.specs.Scaled.{unsigned_of, scaled_of, with_sign}
use Rattle.decimals.specs.declared.DecimalFault.{DecimalFault}

pub scaled_fault : (bytes : List ℕ) (scale : ℕ) (e : DecimalFault)
    → unsigned_of scale (after_sign bytes) ≡ Err e → scaled_of bytes scale ≡ Err e
unfolding scaled_of
scaled_fault bytes scale e h = rw h refl

pub scaled_value : (bytes : List ℕ) (scale m : ℕ) → unsigned_of scale (after_sign bytes) ≡ Ok m
    → scaled_of bytes scale ≡ Ok (with_sign (sign_of bytes) m)
unfolding scaled_of
scaled_value bytes scale m h = rw h refl

pub negated : (sign : Sign) (m : ℕ) → sign ≡ minus → with_sign sign m ≡ neg_ℤ (pos m)
negated sign m e = rw e refl

pub kept : (sign : Sign) (m : ℕ) → sign ≢ minus → with_sign sign m ≡ pos m
kept unsigned m e = refl
kept plus m e = refl
kept minus m e = absurd (e refl)

pub signed_is : (sign : Sign) (b : Bool) (m : ℕ) → (IsTrue b ↔ (sign ≡ minus))
    → with_sign sign m ≡ cond b (neg_ℤ (pos m)) (pos m)
signed_is sign true m h = negated sign m (h.0 refl)
signed_is sign false m h = kept sign m (λ e. let f : IsTrue false = h.1 e in cc)
