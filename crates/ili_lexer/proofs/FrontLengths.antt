-- What stands at the front of a text is not empty, and ends by the end of the text.
use Rattle.std.proofs.Common.{◌≡◌, ℕ, ◌+◌, ◌<◌, ◌≤◌, List, [], ◌∷◌, length, drop, Bool, true, false}
use Rattle.std.proofs.Common.{Option, Some, None, refl, arith, codes, nat_eq, nat_lt, length-drop}
use Rattle.std.proofs.lemmas.Bool.{eqb-false, eqb-true, and_parts, or_parts}
use Rattle.std.specs.Int.{is_in_range}
use Rattle.std.specs.Prelude.{◌||◌, if◌then◌else◌}
use Rattle.std.specs.List.{prefix_len}
use Rattle.std.proofs.lemmas.List.Sums.{prefix_len-le-length}
use Rattle.std.specs.Option.{option_map, option_map_or}
use Rattle.std.specs.Char.{is_ascii_alphabetic, is_ascii_digit, is_ascii_hexdigit}
use Rattle.ili_lexer.specs.declared.fronts.Front.{Front}
use Rattle.ili_lexer.specs.declared.fronts.Front.TheVariants.{Passed, Token, BadByte}
use Rattle.ili_lexer.specs.declared.fronts.Front.TheVariants.{OpenExplanation}
use Rattle.ili_lexer.specs.declared.tokens.Kind.TheVariants as kind
use Rattle.ili_lexer.specs.declared.tokens.Mark.{Mark}
use Rattle.ili_lexer.specs.Bytes.{is_blank, is_name_byte, is_inside_line}
use Rattle.ili_lexer.specs.Fronts.{front_of, explanation_front, hex_front, number_front, mark_front}
use Rattle.ili_lexer.specs.Fronts.{byte_mark, closing, sign_length, decimals_of, begins}

pub record IsPart (text : List ℕ) (n : ℕ) : Type 0 where
  pub some : 0 < n
  pub within : n ≤ length text

abbrev pub IsPartOf : List ℕ → Front → Type 0
IsPartOf text (Passed n) = IsPart text n
IsPartOf text (Token k n) = IsPart text n
IsPartOf text _ = Unit {0}

-- a choice has what both sides have
pub either : (P : Front → Type 0) (b : Bool) (x y : Front) → (b ≡ true → P x) → (b ≡ false → P y)
    → P (if b then x else y)
either P true x y f g = f refl
either P false x y f g = g refl

begins_length : (text word : List ℕ) → begins text word ≡ true → length word ≤ length text
begins_length text [] h = omega arith
begins_length [] (c ∷ word) h = absurd (cc)
begins_length (b ∷ text) (c ∷ word) h =
    let k = begins_length text word (and_parts (nat_eq c b) (begins text word) h).1 in omega arith

-- a run of bytes whose first passes
run_fits : (p : ℕ → Bool) (b : ℕ) (bs : List ℕ) → p b ≡ true
    → IsPart (b ∷ bs) (prefix_len p (b ∷ bs))
run_fits p b bs h = record {
  some = let e : prefix_len p (b ∷ bs) ≡ 1 + prefix_len p bs = rw h refl in omega arith;
  within = prefix_len-le-length p (b ∷ bs);
}

inside_line : (b : ℕ) → is_blank b ≡ false → is_inside_line b ≡ true
inside_line b h = rw (or_parts ((nat_eq b 32 || nat_eq b 9) || nat_eq b 13) (nat_eq b 10) h).1 refl

pub name_byte : (b : ℕ) → is_ascii_alphabetic b ≡ true → is_name_byte b ≡ true
name_byte b h =
    more (is_in_range 48 57 b) (is_in_range 65 90 b) (is_in_range 97 122 b) (nat_eq b 95) h
  where
    more : (d u l x : Bool) → (u || l) ≡ true → (((d || u) || l) || x) ≡ true
    more true u l x h = refl
    more false true l x h = refl
    more false false true x h = refl
    more false false false x h = absurd (cc)

closing_within : (text : List ℕ) (n : ℕ) → closing text ≡ Some n → n ≤ length text
closing_within [] n h = absurd (cc)
closing_within (b ∷ bs) n h = go (λ m. closing_within bs m) (begins (b ∷ bs) (codes "//")) refl h
  where
    one_more : (o : Option ℕ) → ((m : ℕ) → o ≡ Some m → m ≤ length bs)
        → option_map (λ n. 1 + n) o ≡ Some n → n ≤ length (b ∷ bs)
    one_more None f e = absurd (cc)
    one_more (Some m) f e = let k = f m refl in let q : 1 + m ≡ n = cc in omega arith

    go : ((m : ℕ) → closing bs ≡ Some m → m ≤ length bs) → (t : Bool)
        → begins (b ∷ bs) (codes "//") ≡ t
        → (if t then Some 2 else option_map (λ n. 1 + n) (closing bs)) ≡ Some n
        → n ≤ length (b ∷ bs)
    go h true e f =
        let k = begins_length (b ∷ bs) (codes "//") e in let q : 2 ≡ n = cc in omega arith
    go h false e f = one_more (closing bs) h f

explanation_fits : (text : List ℕ) → 2 ≤ length text → IsPartOf text (explanation_front text)
explanation_fits text h = go (closing (drop 2 text)) (closing_within (drop 2 text))
  where
    go : (o : Option ℕ) → ((n : ℕ) → o ≡ Some n → n ≤ length (drop 2 text))
        → IsPartOf text (option_map_or (λ n. Token kind.Explanation (2 + n)) o OpenExplanation)
    go None f = tt
    go (Some n) f =
        let k = f n refl in
        record { some = omega arith; within = omega (arith, length-drop 2 text) }

hex_fits : (text : List ℕ) → 2 ≤ length text → IsPartOf text (hex_front text)
hex_fits text h =
    let d = prefix_len is_ascii_hexdigit (drop 2 text) in
    let k = prefix_len-le-length is_ascii_hexdigit (drop 2 text) in
    either (IsPartOf text) (nat_eq d 0) _ _ (λ e. tt)
    (λ e. go d (eqb-false d 0 e) (omega (arith, length-drop 2 text)))
  where
    go : (d : ℕ) → (d ≡ 0 → ⊥) → 2 + d ≤ length text
        → IsPartOf text (Token kind.Hex (if nat_eq d 1 then 3 else 4))
    go d e f = one (nat_eq d 1) refl
      where
        one : (t : Bool) → nat_eq d 1 ≡ t → IsPartOf text (Token kind.Hex (if t then 3 else 4))
        one true g = record { some = omega arith; within = omega arith }
        one false g = record { some = omega arith; within = omega (arith, eqb-false d 1 g) }

mark_fits : (text : List ℕ) → IsPartOf text (mark_front text)
mark_fits [] = tt
mark_fits (b ∷ bs) =
    either (IsPartOf (b ∷ bs)) (begins (b ∷ bs) (codes "..")) _ _
    (λ e. two (begins_length (b ∷ bs) (codes "..") e))
    (λ d. either (IsPartOf (b ∷ bs)) (begins (b ∷ bs) (codes "->")) _ _
    (λ e. two (begins_length (b ∷ bs) (codes "->") e)) (λ e. one (byte_mark b)))
  where
    two : 2 ≤ length (b ∷ bs) → IsPart (b ∷ bs) 2
    two h = record { some = omega arith; within = h }

    one : (o : Option Mark)
        → IsPartOf (b ∷ bs) (option_map_or (λ m. Token (kind.Mark m) 1) o BadByte)
    one None = tt
    one (Some m) = record { some = omega arith; within = omega arith }

decimals_within : (text : List ℕ) → (decimals_of text ≡ 0 → ⊥) → 1 + decimals_of text ≤ length text
decimals_within text = go (begins text (codes ".")) refl
  where
    go : (t : Bool) → begins text (codes ".") ≡ t
        → ((if t then prefix_len is_ascii_digit (drop 1 text) else 0) ≡ 0 → ⊥)
        → 1 + (if t then prefix_len is_ascii_digit (drop 1 text) else 0) ≤ length text
    go true e f =
        omega (
          arith,
          begins_length text (codes ".") e,
          prefix_len-le-length is_ascii_digit (drop 1 text),
          length-drop 1 text,
        )
    go false e f = absurd (f refl)

-- the bytes of a number at the front, be its digits few or not, behind a sign of so many bytes
abbrev pub number_from : ℕ → List ℕ → ℕ
number_from sign text =
    let whole = prefix_len is_ascii_digit (drop sign text) in
    let decimals = decimals_of (drop (sign + whole) text) in
    sign + whole + (if nat_eq decimals 0 then 0 else 1) + decimals

abbrev pub number_length : List ℕ → ℕ
number_length text = number_from (sign_length text) text

pub number_part : (text : List ℕ)
    → (prefix_len is_ascii_digit (drop (sign_length text) text) ≡ 0 → ⊥)
    → IsPart text (number_length text)
number_part text z =
    let s = sign_length text in
    let w = prefix_len is_ascii_digit (drop s text) in
    let d = decimals_of (drop (s + w) text) in
    go s w d z (omega (
      arith,
      prefix_len-le-length is_ascii_digit (drop s text),
      length-drop s text,
    ))
    (λ g. omega (arith, decimals_within (drop (s + w) text) g, length-drop (s + w) text))
  where
    go : (s w d : ℕ) → (w ≡ 0 → ⊥) → (0 < w → s + w ≤ length text)
        → ((d ≡ 0 → ⊥) → 1 + d + s + w ≤ length text)
        → IsPart text (s + w + (if nat_eq d 0 then 0 else 1) + d)
    go s w d e f g = stop (nat_eq d 0) refl
      where
        stop : (t : Bool) → nat_eq d 0 ≡ t → IsPart text (s + w + (if t then 0 else 1) + d)
        stop true h =
            let z = eqb-true d 0 h in
            record { some = omega arith; within = omega (arith, f (omega arith)) }
        stop false h = record { some = omega arith; within = omega (arith, g (eqb-false d 0 h)) }

number_fits : (text : List ℕ) → IsPartOf text (number_front text)
number_fits text =
    let s = sign_length text in
    let w = prefix_len is_ascii_digit (drop s text) in
    let d = decimals_of (drop (s + w) text) in
    either (IsPartOf text) (nat_eq w 0) _ _ (λ e. mark_fits text)
    (λ e. either (IsPartOf text) (nat_lt 9 d || nat_lt 18 (w + d)) _ _ (λ f. tt)
    (λ f. number_part text (eqb-false w 0 e)))

pub front_fits : (text : List ℕ) → IsPartOf text (front_of text)
front_fits [] = tt
front_fits (b ∷ bs) =
    let t = b ∷ bs in
    let P = IsPartOf t in
    either P (is_blank b) _ _ (λ e. record { some = omega arith; within = omega arith })
    (λ blank. either P (begins t (codes "!!")) _ _
    (λ e. run_fits is_inside_line b bs (inside_line b blank))
    (λ e. either P (begins t (codes "//")) _ _
    (λ e. explanation_fits t (begins_length t (codes "//") e))
    (λ e. either P (begins t (codes "0x")) _ _ (λ e. hex_fits t (begins_length t (codes "0x") e))
    (λ e. either P (is_ascii_alphabetic b) _ _ (λ e. run_fits is_name_byte b bs (name_byte b e))
    (λ e. number_fits t)))))
