-- A text is the spelling of at most one number: of its parts.
use Rattle.std.proofs.Common.{◌≡◌, ℕ, Bool, true, false, cond, eqb, List, [], ◌∷◌, ◌++◌, length}
use Rattle.std.proofs.Common.{drop, Option, Some, None, refl, sym, ap, ◌∙◌, arith}
use Rattle.std.proofs.lemmas.Bool.Decides.{nat_tests}
use borrow.Author.Tests.{eqb-true}
use Rattle.std.specs.Char.{is_ascii_digit}
use Rattle.std.specs.Str.{all_ascii_digits}
use Rattle.decimals.specs.Numerals.{Sign, unsigned, plus, minus, sign_bytes, point_bytes, Numeral}
use Rattle.decimals.specs.Numerals.{spelling, Spells, is_digits, sign_of, after_sign, whole_of}
use Rattle.decimals.specs.Numerals.{point_of, cut}
use Rattle.decimals.proofs.Digits.{both_left, both_right}

-- The parts of a text are its spelling.

signed_by : (c : ℕ) (cs : List ℕ) (p m : Bool) → eqb c 43 ≡ p → eqb c 45 ≡ m
    → c ∷ cs ≡ sign_bytes (cond p plus (cond m minus unsigned))
    ++ drop (length (sign_bytes (cond p plus (cond m minus unsigned)))) (c ∷ cs)
signed_by c cs true m e f = ap (λ (d : ℕ). d ∷ cs) (eqb-true c 43 e)
signed_by c cs false true e f = ap (λ (d : ℕ). d ∷ cs) (eqb-true c 45 f)
signed_by c cs false false e f = refl

joined_sign : (bytes : List ℕ) → bytes ≡ sign_bytes (sign_of bytes) ++ after_sign bytes
joined_sign [] = refl
joined_sign (c ∷ cs) = signed_by c cs _ _ refl refl

joined_point : (bytes : List ℕ) → bytes ≡ whole_of bytes ++ point_bytes (point_of bytes)
joined_point [] = refl
joined_point (c ∷ cs) =
    elim (eqb c 46) as (λ t. eqb c 46 ≡ t
    → c ∷ cs ≡ cond t [] (c ∷ whole_of cs) ++ point_bytes (cond t (Some cs) (point_of cs))) [
      | true ↦ λ e. ap (λ (d : ℕ). d ∷ cs) (eqb-true c 46 e)
      | false ↦ λ e. ap (λ (ds : List ℕ). c ∷ ds) (joined_point cs)
    ] refl

pub joined : (bytes : List ℕ) → bytes ≡ spelling (cut bytes)
joined bytes =
    joined_sign bytes
    ∙ ap (λ (ds : List ℕ). sign_bytes (sign_of bytes) ++ ds) (joined_point (after_sign bytes))

-- A spelling has the parts that it was made of.

no_point : (c : ℕ) → is_ascii_digit c ≡ true → eqb c 46 ≡ false
no_point c h = grind (arith, nat_tests)

no_plus : (c : ℕ) → is_ascii_digit c ≡ true → eqb c 43 ≡ false
no_plus c h = grind (arith, nat_tests)

no_minus : (c : ℕ) → is_ascii_digit c ≡ true → eqb c 45 ≡ false
no_minus c h = grind (arith, nat_tests)

pub whole_back : (whole : List ℕ) (point : Option (List ℕ)) → all_ascii_digits whole ≡ true
    → (whole_of (whole ++ point_bytes point) ≡ whole)
    × (point_of (whole ++ point_bytes point) ≡ point)
whole_back [] None h = (refl, refl)
whole_back [] (Some decimals) h = (refl, refl)
whole_back (c ∷ cs) point h =
    let d : eqb c 46 ≡ false = no_point c (both_left _ _ h) in
    let w = whole_back cs point (both_right _ _ h) in
    (rw d (ap (λ (ds : List ℕ). c ∷ ds) w.0), rw d (w.1))

sign_back : (sign : Sign) (whole rest : List ℕ) → is_digits whole ≡ true
    → (sign_of (sign_bytes sign ++ (whole ++ rest)) ≡ sign)
    × (after_sign (sign_bytes sign ++ (whole ++ rest)) ≡ whole ++ rest)
sign_back plus whole rest h = (refl, refl)
sign_back minus whole rest h = (refl, refl)
sign_back unsigned [] rest h = cc
sign_back unsigned (c ∷ cs) rest h =
    let d = both_left (is_ascii_digit c) _ (both_right _ _ h) in
    (rw (no_plus c d, no_minus c d) refl, rw (no_plus c d, no_minus c d) refl)

parts : (sign : Sign) (whole : List ℕ) (point : Option (List ℕ)) → is_digits whole ≡ true
    → (sign_of (sign_bytes sign ++ (whole ++ point_bytes point)) ≡ sign)
    × (whole_of (after_sign (sign_bytes sign ++ (whole ++ point_bytes point))) ≡ whole)
    × (point_of (after_sign (sign_bytes sign ++ (whole ++ point_bytes point))) ≡ point)
parts sign whole point h =
    let s = sign_back sign whole (point_bytes point) h in
    let w = whole_back whole point (both_right _ _ h) in
    (s.0, rw s.1 (w.0), rw s.1 (w.1))

-- the parts of a text that spells a number are those of the number
pub record IsCutOf (bytes : List ℕ) (n : Numeral) : Type 0 where
  pub sign : sign_of bytes ≡ n.sign
  pub whole : whole_of (after_sign bytes) ≡ n.whole
  pub point : point_of (after_sign bytes) ≡ n.point

pub cut_back : (bytes : List ℕ) (n : Numeral) → Spells bytes n → IsCutOf bytes n
cut_back bytes n h =
    let p = parts n.sign n.whole n.point h.whole in
    rw h.text (record { sign = p.0; whole = p.1; point = p.2 })

pub spelling_is_unique : (bytes : List ℕ) (m n : Numeral) → Spells bytes m → Spells bytes n → m ≡ n
spelling_is_unique bytes m n h k =
    let a = cut_back bytes m h in
    let b = cut_back bytes n k in
    let s : m.sign ≡ n.sign = sym a.sign ∙ b.sign in
    let w : m.whole ≡ n.whole = sym a.whole ∙ b.whole in
    let p : m.point ≡ n.point = sym a.point ∙ b.point in
    ap (λ (x : Sign). let r : Numeral = record { sign = x; whole = m.whole; point = m.point } in
    r) s
    ∙ ap (λ (x : List ℕ). let r : Numeral = record { sign = n.sign; whole = x; point = m.point } in
    r) w
    ∙ ap (λ (x : Option (List ℕ)). let r : Numeral = record {
      sign = n.sign;
      whole = n.whole;
      point = x;
    } in r) p
