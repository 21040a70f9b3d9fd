-- The bytes of a number token spell a number.
use Rattle.std.proofs.Common.{◌≡◌, ℕ, suc, ◌+◌, Bool, true, false, cond, ◌&&◌, ◌||◌, ◌==◌, nat_eq}
use Rattle.std.proofs.Common.{nat_lt, List, [], ◌∷◌, ◌++◌, length, take, drop, codes, Option, Some}
use Rattle.std.proofs.Common.{None, refl, ap, sym, ◌∙◌, arith}
use Rattle.std.proofs.Math.Seq.{take-add}
use Rattle.std.proofs.lemmas.List.{drop-drop}
use Rattle.std.proofs.lemmas.Bool.Decides.{nat_tests}
use Rattle.std.proofs.lemmas.List.Folds.{length-prefix_len}
use Rattle.std.specs.List.{prefix_len}
use Rattle.std.specs.Char.{is_ascii_digit, is_ascii_alphabetic}
use Rattle.std.specs.Str.{all_ascii_digits}
use Rattle.std.specs.Option.{option_map_or}
use Rattle.std.specs.Prelude.{if◌then◌else◌}
use Rattle.ili_lexer.specs.declared.fronts.Front.{Front}
use Rattle.ili_lexer.specs.declared.fronts.Front.TheVariants as front
use Rattle.ili_lexer.specs.declared.tokens.Kind.TheVariants as kind
use Rattle.ili_lexer.specs.declared.tokens.Mark.{Mark}
use Rattle.ili_lexer.specs.declared.keywords.Keyword.{Keyword}
use Rattle.ili_lexer.specs.Fronts.{begins, closing, explanation_front, hex_front, word_front}
use Rattle.ili_lexer.specs.Fronts.{byte_mark, mark_front, sign_length, decimals_of, number_front}
use Rattle.ili_lexer.specs.Fronts.{front_of}
use Rattle.ili_lexer.specs.Bytes.{is_blank, is_inside_line, is_name_byte}
use Rattle.ili_lexer.specs.Keywords.{keyword_of}
use Rattle.decimals.specs.Numerals.{Sign, unsigned, plus, minus, sign_bytes, Numeral, Spells}
use Rattle.decimals.specs.Numerals.{point_bytes, is_digits, has_decimals}

digits_first : (xs : List ℕ) → all_ascii_digits (take (prefix_len is_ascii_digit xs) xs) ≡ true
digits_first [] = refl
digits_first (x ∷ xs) = by_digit (is_ascii_digit x) refl (digits_first xs)
  where
    by_digit : (b : Bool) → is_ascii_digit x ≡ b
        → all_ascii_digits (take (prefix_len is_ascii_digit xs) xs) ≡ true
        → all_ascii_digits (take (cond b (1 + prefix_len is_ascii_digit xs) 0) (x ∷ xs)) ≡ true
    by_digit true e h =
        let next : 1 + prefix_len is_ascii_digit xs
        ≡ suc (prefix_len is_ascii_digit xs) = omega arith in
        ap (λ (n : ℕ). all_ascii_digits (take n (x ∷ xs))) next
        ∙ ap (λ (b : Bool). b && all_ascii_digits (take (prefix_len is_ascii_digit xs) xs)) e
        ∙ h
    by_digit false e h = refl

-- the digits at the front, where there are some
some_digits : (xs : List ℕ) → (prefix_len is_ascii_digit xs == 0) ≡ false
    → is_digits (take (prefix_len is_ascii_digit xs) xs) ≡ true
some_digits xs e =
    let long : nat_lt 0 (length (take (prefix_len is_ascii_digit xs) xs))
    ≡ true = above (length (take (prefix_len is_ascii_digit xs) xs))
    (prefix_len is_ascii_digit xs) (length-prefix_len is_ascii_digit xs) e in
    ap (λ (b : Bool). b && all_ascii_digits (take (prefix_len is_ascii_digit xs) xs)) long
    ∙ digits_first xs
  where
    above : (n p : ℕ) → n ≡ p → (p == 0) ≡ false → nat_lt 0 n ≡ true
    above n p q h = grind (arith, nat_tests, q, h)

equal_is : (a b : ℕ) → (a == b) ≡ true → a ≡ b
equal_is a b e = grind (arith, nat_tests, e)

-- what stands behind the whole digits, with its decimals
record IsPoint (text : List ℕ) (n : ℕ) (p : Option (List ℕ)) : Type 0 where
  written : take n text ≡ point_bytes p
  digits : has_decimals p ≡ true

point_found : (text : List ℕ)
    → (p : Option (List ℕ)) × IsPoint text
    ((if decimals_of text == 0 then 0 else 1) + decimals_of text) p
point_found [] = (None, record { written = refl; digits = refl })
point_found (c ∷ cs) = by_start (nat_eq 46 c) refl
  where
    by_count : nat_eq 46 c ≡ true → (b : Bool) → (prefix_len is_ascii_digit cs == 0) ≡ b
        → (p : Option (List ℕ)) × IsPoint (c ∷ cs)
        ((if b then 0 else 1) + prefix_len is_ascii_digit cs) p
    by_count q true e =
        let none : 0 + prefix_len is_ascii_digit cs
        ≡ 0 = omega (arith, equal_is (prefix_len is_ascii_digit cs) 0 e) in
        (None, record { written = ap (λ (n : ℕ). take n (c ∷ cs)) none; digits = refl })
    by_count q false e =
        let more : 1 + prefix_len is_ascii_digit cs
        ≡ suc (prefix_len is_ascii_digit cs) = omega arith in (
          Some (take (prefix_len is_ascii_digit cs) cs),
          record {
            written = ap (λ (n : ℕ). take n (c ∷ cs)) more
                ∙ ap (λ (x : ℕ). x ∷ take (prefix_len is_ascii_digit cs) cs) (sym (equal_is 46 c q));
            digits = some_digits cs e;
          },
        )

    by_start : (b : Bool) → nat_eq 46 c ≡ b
        → (p : Option (List ℕ)) × IsPoint (c ∷ cs)
        ((if (if b && true then prefix_len is_ascii_digit cs else 0) == 0 then 0 else 1)
        + (if b && true then prefix_len is_ascii_digit cs else 0)) p
    by_start true q = by_count q (prefix_len is_ascii_digit cs == 0) refl
    by_start false q = (None, record { written = refl; digits = refl })

-- the sign at the front, or none
sign_found : (b : ℕ) (bs : List ℕ)
    → (sign : Sign) × (take (sign_length (b ∷ bs)) (b ∷ bs) ≡ sign_bytes sign)
sign_found b bs = by_tests (nat_eq 43 b) refl (nat_eq 45 b) refl
  where
    by_tests : (x : Bool) → nat_eq 43 b ≡ x → (y : Bool) → nat_eq 45 b ≡ y
        → (sign : Sign)
        × (take (if (x && true) || (y && true) then 1 else 0) (b ∷ bs) ≡ sign_bytes sign)
    by_tests true p y q = (plus, ap (λ (k : ℕ). k ∷ []) (sym (equal_is 43 b p)))
    by_tests false p true q = (minus, ap (λ (k : ℕ). k ∷ []) (sym (equal_is 45 b q)))
    by_tests false p false q = (unsigned, refl)

number_spelled : (sign : Sign) (at n : ℕ) (text : List ℕ) → take at text ≡ sign_bytes sign
    → (prefix_len is_ascii_digit (drop at text) == 0) ≡ false
    → n ≡ at + prefix_len is_ascii_digit (drop at text)
    + (if decimals_of (drop (at + prefix_len is_ascii_digit (drop at text)) text) == 0 then 0
    else 1) + decimals_of (drop (at + prefix_len is_ascii_digit (drop at text)) text)
    → (m : Numeral) × Spells (take n text) m
number_spelled sign at n text s some e =
    let rest : List ℕ = drop at text in
    let whole : ℕ = prefix_len is_ascii_digit rest in
    let p = point_found (drop whole rest) in
    let d : ℕ = (if decimals_of (drop whole rest) == 0 then 0 else 1)
    + decimals_of (drop whole rest) in
    let behind : drop (at + whole) text ≡ drop whole rest = sym (drop-drop whole at text) in
    let count : n ≡ at + (whole + d) = e
    ∙ ap (λ (l : List ℕ). at + whole + (if decimals_of l == 0 then 0 else 1) + decimals_of l)
    behind ∙ omega arith in
    let m : Numeral = record { sign = sign; whole = take whole rest; point = p.0 } in
    let parts : take (whole + d) rest ≡ take whole rest ++ point_bytes p.0 = take-add whole d rest
    ∙ ap (λ (l : List ℕ). take whole rest ++ l) p.1.written in (
      m,
      record {
        text = ap (λ (k : ℕ). take k text) count ∙ take-add at (whole + d) text
            ∙ ap (λ (l : List ℕ). l ++ take (whole + d) rest) s
            ∙ ap (λ (l : List ℕ). sign_bytes sign ++ l) parts;
        whole = some_digits rest some;
        point = p.1.digits;
      },
    )

-- ---- a token that is a number
later : (b : Bool) (x y f : Front) → (x ≡ f → ⊥) → (if b then x else y) ≡ f → y ≡ f
later true x y f differs e = absurd (differs e)
later false x y f differs e = e

no_explanation : (n : ℕ) (o : Option ℕ)
    → option_map_or (λ k. front.Token kind.Explanation (2 + k)) o front.OpenExplanation
    ≡ front.Token kind.Number n
    → ⊥
no_explanation n None e = cc
no_explanation n (Some k) e = cc

no_hex : (n : ℕ) (b : Bool) (k : ℕ)
    → (if b then front.BadByte else front.Token kind.Hex k) ≡ front.Token kind.Number n → ⊥
no_hex n true k e = cc
no_hex n false k e = cc

no_word : (n k : ℕ) (o : Option Keyword)
    → front.Token (option_map_or (λ w. kind.Keyword w) o kind.Name) k ≡ front.Token kind.Number n
    → ⊥
no_word n k None e = cc
no_word n k (Some w) e = cc

no_byte_mark : (n : ℕ) (o : Option Mark)
    → option_map_or (λ m. front.Token (kind.Mark m) 1) o front.BadByte ≡ front.Token kind.Number n
    → ⊥
no_byte_mark n None e = cc
no_byte_mark n (Some m) e = cc

no_mark_token : (n k : ℕ) (m : Mark) → front.Token (kind.Mark m) k ≡ front.Token kind.Number n → ⊥
no_mark_token n k m e = cc

no_mark : (n b : ℕ) (bs : List ℕ) → mark_front (b ∷ bs) ≡ front.Token kind.Number n → ⊥
no_mark n b bs e =
    no_byte_mark n (byte_mark b)
    (later (begins (b ∷ bs) (codes "->")) _ _ (front.Token kind.Number n)
    (λ h. no_mark_token n 2 _ h)
    (later (begins (b ∷ bs) (codes "..")) _ _ (front.Token kind.Number n)
    (λ h. no_mark_token n 2 _ h) e))

no_passed : (n k : ℕ) → front.Passed k ≡ front.Token kind.Number n → ⊥
no_passed n k e = cc

no_long : (n : ℕ) → front.LongNumber ≡ front.Token kind.Number n → ⊥
no_long n e = cc

one_count : (k n : ℕ) → front.Token kind.Number k ≡ front.Token kind.Number n → k ≡ n
one_count k n e = cc

number_there : (n b : ℕ) (bs : List ℕ) → front_of (b ∷ bs) ≡ front.Token kind.Number n
    → number_front (b ∷ bs) ≡ front.Token kind.Number n
number_there n b bs e =
    let f : Front = front.Token kind.Number n in
    let text : List ℕ = b ∷ bs in
    later (is_ascii_alphabetic b) (word_front text) (number_front text) f
    (no_word n (prefix_len is_name_byte text)
    (keyword_of (take (prefix_len is_name_byte text) text)))
    (later (begins text (codes "0x")) (hex_front text) _ f
    (no_hex n (prefix_len _ (drop 2 text) == 0) _)
    (later (begins text (codes "//")) (explanation_front text) _ f
    (no_explanation n (closing (drop 2 text)))
    (later (begins text (codes "!!")) (front.Passed (prefix_len is_inside_line text)) _ f
    (no_passed n (prefix_len is_inside_line text))
    (later (is_blank b) (front.Passed 1) _ f (no_passed n 1) e))))

pub token_spells : (text : List ℕ) (n : ℕ) → front_of text ≡ front.Token kind.Number n
    → (m : Numeral) × Spells (take n text) m
token_spells [] n e = absurd (no_end n e)
  where
    no_end : (n : ℕ) → front.End ≡ front.Token kind.Number n → ⊥
    no_end n e = cc
token_spells (b ∷ bs) n e =
    by_whole (prefix_len is_ascii_digit (drop (sign_length (b ∷ bs)) (b ∷ bs)) == 0) refl
    (number_there n b bs e)
  where
    by_length : (prefix_len is_ascii_digit (drop (sign_length (b ∷ bs)) (b ∷ bs)) == 0) ≡ false
        → (x : Bool) → (k : ℕ)
        → k ≡ sign_length (b ∷ bs) + prefix_len is_ascii_digit
        (drop (sign_length (b ∷ bs)) (b ∷ bs))
        + (if decimals_of
        (drop (sign_length (b ∷ bs) + prefix_len is_ascii_digit
        (drop (sign_length (b ∷ bs)) (b ∷ bs))) (b ∷ bs)) == 0 then 0 else 1)
        + decimals_of
        (drop (sign_length (b ∷ bs) + prefix_len is_ascii_digit
        (drop (sign_length (b ∷ bs)) (b ∷ bs))) (b ∷ bs))
        → (if x then front.LongNumber else front.Token kind.Number k) ≡ front.Token kind.Number n
        → (m : Numeral) × Spells (take n (b ∷ bs)) m
    by_length some true k c h = absurd (no_long n h)
    by_length some false k c h =
        let s = sign_found b bs in
        number_spelled s.0 (sign_length (b ∷ bs)) n (b ∷ bs) s.1 some (sym (one_count k n h) ∙ c)

    by_whole : (x : Bool)
        → (prefix_len is_ascii_digit (drop (sign_length (b ∷ bs)) (b ∷ bs)) == 0) ≡ x
        → (if x then mark_front (b ∷ bs) else if
        (nat_lt 9 (decimals_of
        (drop (sign_length (b ∷ bs) + prefix_len is_ascii_digit
        (drop (sign_length (b ∷ bs)) (b ∷ bs))) (b ∷ bs))) || nat_lt 18
        (prefix_len is_ascii_digit (drop (sign_length (b ∷ bs)) (b ∷ bs))
        + decimals_of
        (drop (sign_length (b ∷ bs) + prefix_len is_ascii_digit
        (drop (sign_length (b ∷ bs)) (b ∷ bs))) (b ∷ bs)))) then front.LongNumber else
        front.Token kind.Number (sign_length (b ∷ bs)
        + prefix_len is_ascii_digit (drop (sign_length (b ∷ bs)) (b ∷ bs))
        + (if decimals_of
        (drop (sign_length (b ∷ bs) + prefix_len is_ascii_digit
        (drop (sign_length (b ∷ bs)) (b ∷ bs))) (b ∷ bs)) == 0 then 0 else 1)
        + decimals_of
        (drop (sign_length (b ∷ bs) + prefix_len is_ascii_digit
        (drop (sign_length (b ∷ bs)) (b ∷ bs))) (b ∷ bs)))) ≡ front.Token kind.Number n
        → (m : Numeral) × Spells (take n (b ∷ bs)) m
    by_whole true q h = absurd (no_mark n b bs h)
    by_whole false q h =
        by_length q (nat_lt 9
        (decimals_of
        (drop (sign_length (b ∷ bs) + prefix_len is_ascii_digit
        (drop (sign_length (b ∷ bs)) (b ∷ bs))) (b ∷ bs))) || nat_lt 18
        (prefix_len is_ascii_digit (drop (sign_length (b ∷ bs)) (b ∷ bs))
        + decimals_of
        (drop (sign_length (b ∷ bs) + prefix_len is_ascii_digit
        (drop (sign_length (b ∷ bs)) (b ∷ bs))) (b ∷ bs)))) _ refl h
