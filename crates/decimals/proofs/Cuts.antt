-- What stands before the first point and behind it.
use Rattle.std.proofs.Common.{◌≡◌, ℕ, ◌+◌, ◌-◌, ◌<◌, Bool, true, false, cond, ltb, eqb, not, ◌&&◌}
use Rattle.std.proofs.Common.{List, [], ◌∷◌, length, suc, take, drop, Option, Some, None, Result}
use Rattle.std.proofs.Common.{Err, refl, sym, ap, ◌∙◌, arith, length-drop}
use Rattle.std.proofs.lemmas.Bool.Decides.{nat_tests}
use Rattle.std.proofs.lemmas.List.{take_all}
use Rattle.std.proofs.Math.ListN.{drop_of_length-le}
use borrow.Author.Tests.{ltb-true, ltb-false, lt-ltb}
use Rattle.std.specs.List.{position, position_or_len}
use Rattle.std.specs.Str.{all_ascii_digits}
use Rattle.decimals.specs.Numerals.{is_digits, whole_of, point_of}
use Rattle.decimals.specs.Scaled.{measured, unsigned_of}
use Rattle.decimals.specs.Counted.{parts_of}
use Rattle.decimals.specs.declared.DecimalFault.{DecimalFault}
use Rattle.decimals.specs.declared.DecimalFault.TheVariants.{NotNumber}

one_add : (n : ℕ) → 1 + n ≡ suc n
one_add n = omega arith

abbrev place : List ℕ → ℕ
place bytes = position_or_len (λ byte. eqb byte 46) bytes

whole_cut : (bytes : List ℕ) → whole_of bytes ≡ take (place bytes) bytes
whole_cut [] = refl
whole_cut (c ∷ cs) =
    elim (eqb c 46) as (λ t. cond t [] (c ∷ whole_of cs)
    ≡ take (cond (not t) (1 + place cs) 0) (c ∷ cs)) [
      | true ↦ refl
      | false ↦ rw (one_add (place cs)) (ap (λ (xs : List ℕ). c ∷ xs) (whole_cut cs))
    ]

one_more : (n : ℕ) → 1 + n + 1 ≡ suc (n + 1)
one_more n = omega arith

shifted : (n m : ℕ) (r : Option (List ℕ))
    → cond (ltb n m) r None ≡ cond (ltb (1 + n) (suc m)) r None
shifted n m r = ap (λ (t : Bool). cond t r None) (grind (arith, nat_tests))

point_cut : (bytes : List ℕ)
    → point_of bytes ≡ cond (ltb (place bytes) (length bytes))
    (Some (drop (place bytes + 1) bytes)) None
point_cut [] = refl
point_cut (c ∷ cs) =
    elim (eqb c 46) as (λ t. cond t (Some cs) (point_of cs)
    ≡ cond (ltb (cond (not t) (1 + place cs) 0) (length (c ∷ cs)))
    (Some (drop (cond (not t) (1 + place cs) 0 + 1) (c ∷ cs))) None) [
      | true ↦ ap (λ (t : Bool). cond t (Some cs) None)
          (sym (lt-ltb 0 (suc (length cs)) (omega arith)))
      | false ↦ rw (one_more (place cs)) (point_cut cs
          ∙ shifted (place cs) (length cs) (Some (drop (place cs + 1) cs)))
    ]

-- the first point is at this place
pub record IsPlace (bytes : List ℕ) (at : ℕ) : Type 0 where
  pub within : at < length bytes
  pub whole : whole_of bytes ≡ take at bytes
  pub point : point_of bytes ≡ Some (drop (at + 1) bytes)

found_by : (bytes : List ℕ) (at : ℕ) (t : Bool) → ltb (place bytes) (length bytes) ≡ t
    → cond t (Some (place bytes)) None ≡ Some at → IsPlace bytes at
found_by bytes at true e h =
    let p : place bytes ≡ at = cc in
    record {
      within = omega (arith, ltb-true (place bytes) (length bytes) e);
      whole = whole_cut bytes ∙ ap (λ (n : ℕ). take n bytes) p;
      point = point_cut bytes ∙ rw e (ap (λ (n : ℕ). Some (drop (n + 1) bytes)) p);
    }
found_by bytes at false e h = cc

found : (bytes : List ℕ) (at : ℕ) → position (λ byte. eqb byte 46) bytes ≡ Some at
    → IsPlace bytes at
found bytes at h = found_by bytes at _ refl h

missing_by : (bytes : List ℕ) (t : Bool) → ltb (place bytes) (length bytes) ≡ t
    → cond t (Some (place bytes)) None ≡ None → (whole_of bytes ≡ bytes) × (point_of bytes ≡ None)
missing_by bytes true e h = cc
missing_by bytes false e h = (
  whole_cut bytes ∙ take_all (place bytes) bytes (ltb-false (place bytes) (length bytes) e),
  point_cut bytes ∙ rw e refl,
)

pub missing : (bytes : List ℕ) → position (λ byte. eqb byte 46) bytes ≡ None
    → (whole_of bytes ≡ bytes) × (point_of bytes ≡ None)
missing bytes h = missing_by bytes _ refl h

-- a point at the end
no_number : (b : Bool) (r : Result ℕ DecimalFault)
    → cond (b && false) r (Err NotNumber) ≡ Err NotNumber
no_number true r = refl
no_number false r = refl

pub unsigned_open : (scale at : ℕ) (bytes : List ℕ) → position (λ byte. eqb byte 46) bytes ≡ Some at
    → at + 1 ≡ length bytes → unsigned_of scale bytes ≡ Err NotNumber
unsigned_open scale at bytes h e =
    let f = found bytes at h in
    let p : point_of bytes ≡ Some [] = f.point
    ∙ ap (λ (ds : List ℕ). Some ds) (drop_of_length-le bytes (omega arith)) in
    rw p (no_number (is_digits (whole_of bytes)) (measured scale (whole_of bytes) []))

-- a point with something behind it
some_decimals : (decimals : List ℕ) → 0 < length decimals
    → is_digits decimals ≡ all_ascii_digits decimals
some_decimals decimals h = rw (lt-ltb 0 (length decimals) h) refl

pub unsigned_found : (scale at : ℕ) (bytes : List ℕ)
    → position (λ byte. eqb byte 46) bytes ≡ Some at → (at + 1 ≡ length bytes → ⊥)
    → unsigned_of scale bytes ≡ parts_of scale (take at bytes) (drop (at + 1) bytes)
unsigned_found scale at bytes h e =
    let f = found bytes at h in
    rw (f.whole, f.point)
    (ap (λ (t : Bool). cond (is_digits (take at bytes) && t)
    (measured scale (take at bytes) (drop (at + 1) bytes)) (Err NotNumber))
    (some_decimals (drop (at + 1) bytes) (omega (arith, length-drop (at + 1) bytes, f.within))))

-- the same, where the rest of the bytes is taken by its length
pub unsigned_rest : (scale at n : ℕ) (bytes : List ℕ)
    → position (λ byte. eqb byte 46) bytes ≡ Some at → (at + 1 ≡ length bytes → ⊥)
    → n ≡ length bytes - (at + 1) → parts_of scale (take at bytes) (take n (drop (at + 1) bytes))
    ≡ unsigned_of scale bytes
unsigned_rest scale at n bytes h e k =
    let rest = drop (at + 1) bytes in
    ap (λ (ds : List ℕ). parts_of scale (take at bytes) ds)
    (take_all n rest (omega (arith, length-drop (at + 1) bytes)))
    ∙ sym (unsigned_found scale at bytes h e)

-- no point
pub unsigned_plain : (scale : ℕ) (bytes : List ℕ) → position (λ byte. eqb byte 46) bytes ≡ None
    → unsigned_of scale bytes ≡ parts_of scale bytes []
unsigned_plain scale bytes h =
    let m = missing bytes h in
    rw (m.0, m.1) refl
