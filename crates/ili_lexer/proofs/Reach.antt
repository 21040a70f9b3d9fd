-- A token of the table at the front of a text is found there, or a longer one is.
use Rattle.std.proofs.Common.{◌≡◌, ℕ, ◌+◌, ◌<◌, ◌≤◌, suc, List, [], ◌∷◌, ◌++◌, length, take, drop}
use Rattle.std.proofs.Common.{Bool, true, false, Option, Some, None, refl, sym, ap, ◌∙◌, subst}
use Rattle.std.proofs.Common.{arith, codes, nat_eq, length-append}
use Rattle.std.proofs.lemmas.Bool.{eqb-true, and_parts}
use Rattle.std.specs.Prelude.{◌&&◌}
use Rattle.std.specs.Option.{option_map, option_map_or}
use Rattle.std.specs.List.{prefix_len, AllPass, list_all}
use Rattle.std.proofs.lemmas.List.Sums.{AllPass-from_list_all, list_all-from_AllPass}
use Rattle.std.specs.Char.{is_ascii_alphabetic, is_ascii_hexdigit}
use Rattle.ili_lexer.specs.declared.fronts.Front.{Front}
use Rattle.ili_lexer.specs.declared.fronts.Front.TheVariants.{Token, BadByte, OpenExplanation}
use Rattle.ili_lexer.specs.declared.fronts.Front.TheVariants.{LongNumber}
use Rattle.ili_lexer.specs.declared.tokens.Kind.{Kind}
use Rattle.ili_lexer.specs.declared.tokens.Kind.TheVariants as kind
use Rattle.ili_lexer.specs.declared.tokens.Mark.{Mark}
use Rattle.ili_lexer.specs.declared.tokens.Mark.TheVariants.{Semicolon, Colon, Comma, Equals}
use Rattle.ili_lexer.specs.declared.tokens.Mark.TheVariants.{LeftParen, RightParen, LeftBracket}
use Rattle.ili_lexer.specs.declared.tokens.Mark.TheVariants.{RightBracket, Star, Greater, Period}
use Rattle.ili_lexer.specs.declared.tokens.Mark.TheVariants.{TwoPeriods, Arrow}
use Rattle.ili_lexer.specs.declared.keywords.Keyword.{Keyword}
use Rattle.ili_lexer.specs.Bytes.{is_blank, is_name_byte}
use Rattle.ili_lexer.specs.Keywords.{word_of, keyword_of}
use Rattle.ili_lexer.specs.Fronts.{begins, closing, front_of, hex_front, word_front, kind_of_word}
use Rattle.ili_lexer.specs.Forms.{IsName, bytes_of_mark}
use Rattle.ili_lexer.specs.Longest.{IsOpenHex}
use Rattle.ili_lexer.proofs.FrontLengths.{name_byte, number_length}
use Rattle.ili_lexer.proofs.Runs.{chosen, passed_over, both_sides, other_byte, other_than, no_front}
use Rattle.ili_lexer.proofs.Runs.{run_append}
use Rattle.ili_lexer.proofs.Words.{known, found, is_word_form, is_word}

-- what stands at the front where a token of this kind and length is one: that one, a longer
-- one, a number with too many digits that is no shorter, or the fault of an open `0x`
abbrev pub Reaches : Kind → ℕ → List ℕ → Front → Type 0
Reaches k m text (Token j n) = (m ≤ n) × (n ≡ m → j ≡ k)
Reaches k m text LongNumber = (k ≡ kind.Number) × (m ≤ number_length text)
Reaches k m text BadByte = IsOpenHex text × (k ≡ kind.Number) × (m ≡ 1)
Reaches k m text _ = ⊥

abbrev pub At : Kind → List ℕ → List ℕ → Type 0
At k bytes rest = Reaches k (length bytes) (bytes ++ rest) (front_of (bytes ++ rest))

pub not_blank : (p : ℕ → Bool) (b : ℕ) → p b ≡ true → p 32 ≡ false → p 9 ≡ false → p 13 ≡ false
    → p 10 ≡ false → is_blank b ≡ false
not_blank p b h s t c l =
    let e = other_than p b 32 h s in
    let f = other_than p b 9 h t in
    let g = other_than p b 13 h c in
    let i = other_than p b 10 h l in cc

take_front : (xs ys : List ℕ) → take (length xs) (xs ++ ys) ≡ xs
take_front [] ys = refl
take_front (x ∷ xs) ys = ap (λ (zs : List ℕ). x ∷ zs) (take_front xs ys)

-- ---- words
front_word : (b : ℕ) (bs : List ℕ) → is_ascii_alphabetic b ≡ true
    → front_of (b ∷ bs) ≡ word_front (b ∷ bs)
front_word b bs h =
    let p = is_ascii_alphabetic in
    passed_over (is_blank b) _ _ _ (not_blank p b h refl refl refl refl)
    (passed_over (begins (b ∷ bs) (codes "!!")) _ _ _
    (no_front 33 b (33 ∷ []) bs (other_byte p b 33 h refl))
    (passed_over (begins (b ∷ bs) (codes "//")) _ _ _
    (no_front 47 b (47 ∷ []) bs (other_byte p b 47 h refl))
    (passed_over (begins (b ∷ bs) (codes "0x")) _ _ _
    (no_front 48 b (120 ∷ []) bs (other_byte p b 48 h refl))
    (chosen (is_ascii_alphabetic b) _ _ h))))

pub word_reaches : (k : Kind) (w rest : List ℕ) → is_word_form w ≡ true → kind_of_word w ≡ k
    → At k w rest
word_reaches k [] rest h e = absurd (cc)
word_reaches k (b ∷ bs) rest h e =
    let p = and_parts (is_ascii_alphabetic b) (list_all is_name_byte bs) h in
    let run : prefix_len is_name_byte (b ∷ (bs ++ rest))
    ≡ 1 + prefix_len is_name_byte (bs ++ rest) = rw (name_byte b p.0) refl in
    let more = run_append is_name_byte bs rest (AllPass-from_list_all is_name_byte bs p.1) in
    subst (Reaches k (length (b ∷ bs)) ((b ∷ bs) ++ rest)) (sym (front_word b (bs ++ rest) p.0)) (
      omega (arith, run, more),
      λ q. ap kind_of_word (ap (λ (n : ℕ). take n (b ∷ (bs ++ rest))) q
          ∙ take_front (b ∷ bs) rest) ∙ e,
    )

pub name_reaches : (bytes rest : List ℕ) → IsName bytes → At kind.Name bytes rest
name_reaches bytes rest n =
    word_reaches kind.Name bytes rest
    (subst (λ (w : List ℕ). is_word_form w ≡ true) (sym n.made)
    (form n.letter (list_all-from_AllPass is_name_byte n.rest n.behind)))
    (free (keyword_of bytes) refl)
  where
    form : {s t : Bool} → s ≡ true → t ≡ true → (s && t) ≡ true
    form p q = cc

    free : (o : Option Keyword) → keyword_of bytes ≡ o
        → option_map_or (λ k. kind.Keyword k) o kind.Name ≡ kind.Name
    free None e = refl
    free (Some k) e = absurd (n.free k (found bytes k e))

pub keyword_reaches : (k : Keyword) (bytes rest : List ℕ) → bytes ≡ word_of k
    → At (kind.Keyword k) bytes rest
keyword_reaches k bytes rest e =
    subst (λ (w : List ℕ). At (kind.Keyword k) w rest) (sym e)
    (word_reaches (kind.Keyword k) (word_of k) rest (is_word k)
    (ap (λ (o : Option Keyword). option_map_or (λ k. kind.Keyword k) o kind.Name) (known k)))

-- ---- hexadecimal numbers
pub hex_reaches : (digits rest : List ℕ) → 0 < length digits → length digits ≤ 2
    → AllPass is_ascii_hexdigit digits → At kind.Hex (48 ∷ 120 ∷ digits) rest
hex_reaches digits rest some few all =
    let d = prefix_len is_ascii_hexdigit (digits ++ rest) in
    let more = run_append is_ascii_hexdigit digits rest all in
    let m = length (48 ∷ 120 ∷ digits) in
    both_sides (Reaches kind.Hex m (48 ∷ 120 ∷ (digits ++ rest))) (nat_eq d 0) _ _
    (λ e. absurd (let z = eqb-true d 0 e in omega (arith, z, more)))
    (λ _. both_sides (λ (n : ℕ). (m ≤ n) × (n ≡ m → kind.Hex ≡ kind.Hex)) (nat_eq d 1) 3 4
    (λ e. (let z = eqb-true d 1 e in omega (arith, z, more), λ _. refl))
    (λ _. (omega arith, λ _. refl)))

-- an open `0x`, or a hexadecimal number, which is longer than its `0`
pub open_reaches : (m : ℕ) (u : List ℕ) → m ≡ 1
    → Reaches kind.Number m (48 ∷ 120 ∷ u) (hex_front (48 ∷ 120 ∷ u))
open_reaches m u e =
    let d = prefix_len is_ascii_hexdigit u in
    both_sides (Reaches kind.Number m (48 ∷ 120 ∷ u)) (nat_eq d 0) _ _
    (λ z. (record { opened = refl; none = eqb-true d 0 z }, refl, e))
    (λ _. both_sides (λ (n : ℕ). (m ≤ n) × (n ≡ m → kind.Hex ≡ kind.Number)) (nat_eq d 1) 3 4
    (λ _. (omega arith, λ q. absurd (omega arith)))
    (λ _. (omega arith, λ q. absurd (omega arith))))

-- ---- explanations
same_begin : (b : ℕ) (xs rest : List ℕ)
    → begins (b ∷ ((xs ++ codes "//") ++ rest)) (codes "//")
    ≡ begins (b ∷ (xs ++ codes "//")) (codes "//")
same_begin b [] rest = refl
same_begin b (x ∷ xs) rest = refl

closes : (inside rest : List ℕ)
    → ((i : ℕ) → i < length inside → begins (drop i (inside ++ codes "//")) (codes "//") ≡ false)
    → closing ((inside ++ codes "//") ++ rest) ≡ Some (length inside + 2)
closes [] rest next = refl
closes (b ∷ xs) rest next =
    passed_over (begins (b ∷ ((xs ++ codes "//") ++ rest)) (codes "//")) _ _ _ (same_begin b xs rest
    ∙ next 0 (omega arith))
    (ap (option_map (λ (n : ℕ). 1 + n)) (closes xs rest (λ i l. next (suc i) (omega arith)))
    ∙ ap (λ (n : ℕ). Some n) (count (length xs)))
  where
    count : (n : ℕ) → 1 + (n + 2) ≡ suc n + 2
    count n = omega arith

pub explanation_reaches : (inside rest : List ℕ)
    → ((i : ℕ) → i < length inside → begins (drop i (inside ++ codes "//")) (codes "//") ≡ false)
    → At kind.Explanation (codes "//" ++ (inside ++ codes "//")) rest
explanation_reaches inside rest next =
    subst (Reaches kind.Explanation (length (codes "//" ++ (inside ++ codes "//")))
    (codes "//" ++ ((inside ++ codes "//") ++ rest)))
    (sym (ap (λ (o : Option ℕ). option_map_or
    (λ n. Token kind.Explanation (2 + n)) o OpenExplanation) (closes inside rest next)))
    (omega (arith, length-append inside (codes "//")), λ _. refl)

-- ---- marks
pub mark_reaches : (m : Mark) (rest : List ℕ) → At (kind.Mark m) (bytes_of_mark m) rest
mark_reaches Semicolon rest = (omega arith, λ _. refl)
mark_reaches Colon rest = (omega arith, λ _. refl)
mark_reaches Comma rest = (omega arith, λ _. refl)
mark_reaches Equals rest = (omega arith, λ _. refl)
mark_reaches LeftParen rest = (omega arith, λ _. refl)
mark_reaches RightParen rest = (omega arith, λ _. refl)
mark_reaches LeftBracket rest = (omega arith, λ _. refl)
mark_reaches RightBracket rest = (omega arith, λ _. refl)
mark_reaches Star rest = (omega arith, λ _. refl)
mark_reaches Greater rest = (omega arith, λ _. refl)
mark_reaches Period rest =
    both_sides (Reaches (kind.Mark Period) 1 (46 ∷ rest)) (begins (46 ∷ rest) (codes "..")) _ _
    (λ _. (omega arith, λ q. absurd (omega arith))) (λ _. (omega arith, λ _. refl))
mark_reaches TwoPeriods rest = (omega arith, λ _. refl)
mark_reaches Arrow rest = (omega arith, λ _. refl)
