-- What is found at the front of a text has the form that the table gives it.
use Rattle.std.proofs.Common.{◌≡◌, ℕ, ◌+◌, ◌<◌, ◌≤◌, suc, zero, List, [], ◌∷◌, ◌++◌, length, take}
use Rattle.std.proofs.Common.{drop, Bool, true, false, Option, Some, None, refl, sym, ap, ◌∙◌}
use Rattle.std.proofs.Common.{subst, arith, codes, nat_eq, nat_lt, take-add, append_assoc}
use Rattle.std.proofs.Common.{append-nil}
use Rattle.std.proofs.lemmas.Bool.{eqb-true, eqb-false, ltb-false, ltb-true, or_parts}
use Rattle.std.specs.Prelude.{◌||◌, if◌then◌else◌}
use Rattle.std.specs.Option.{option_map, option_map_or}
use Rattle.std.specs.List.{prefix_len, AllPass}
use Rattle.std.proofs.lemmas.List.{length-take-le}
use Rattle.std.proofs.lemmas.List.Sums.{prefix_len-le-length}
use Rattle.std.specs.Char.{is_ascii_alphabetic, is_ascii_digit, is_ascii_hexdigit}
use Rattle.ili_lexer.specs.declared.fronts.Front.{Front}
use Rattle.ili_lexer.specs.declared.fronts.Front.TheVariants.{End, Passed, Token, BadByte}
use Rattle.ili_lexer.specs.declared.fronts.Front.TheVariants.{OpenExplanation, LongNumber}
use Rattle.ili_lexer.specs.declared.tokens.Kind.{Kind}
use Rattle.ili_lexer.specs.declared.tokens.Kind.TheVariants as kind
use Rattle.ili_lexer.specs.declared.tokens.Mark.{Mark}
use Rattle.ili_lexer.specs.declared.keywords.Keyword.{Keyword}
use Rattle.ili_lexer.specs.Bytes.{is_blank, is_name_byte}
use Rattle.ili_lexer.specs.Keywords.{word_of, keyword_of}
use Rattle.ili_lexer.specs.Fronts.{begins, closing, front_of, explanation_front, hex_front}
use Rattle.ili_lexer.specs.Fronts.{word_front, kind_of_word, number_front, mark_front, byte_mark}
use Rattle.ili_lexer.specs.Fronts.{sign_length, decimals_of}
use Rattle.ili_lexer.specs.Forms.{IsSign, unsigned, plus, minus, fraction, IsNumber, IsShort}
use Rattle.ili_lexer.specs.Forms.{bytes_of_mark, IsToken}
use Rattle.ili_lexer.specs.Longest.{begins_blank, IsOpenHex, IsBetween, blank, comment}
use Rattle.ili_lexer.specs.Longest.{HasFewDigits}
use Rattle.ili_lexer.proofs.FrontLengths.{either, name_byte, number_length, number_part}
use Rattle.ili_lexer.proofs.Runs.{first_two, first_one, run_passes, both_sides}
use Rattle.ili_lexer.proofs.Words.{known, found}

-- a token of the table at the front
pub record Found (text : List ℕ) (k : Kind) (n : ℕ) : Type 0 where
  pub token : IsToken k (take n text)
  pub few : HasFewDigits k (take n text)
  pub closed : IsOpenHex text → ⊥

pub record FoundLong (text : List ℕ) : Type 0 where
  pub within : number_length text ≤ length text
  pub number : IsNumber (take (number_length text) text)
  pub long : IsShort number → ⊥

-- no blank, comment or explanation begins here
pub record Clear (text : List ℕ) : Type 0 where
  pub some : text ≡ [] → ⊥
  pub blank : begins_blank text ≡ false
  pub comment : begins text (codes "!!") ≡ false
  pub explanation : begins text (codes "//") ≡ false

pub data Bad (text : List ℕ) : Type 0 where
  clear : Clear text → Bad text
  open_hex : IsOpenHex text → Bad text

abbrev pub Sound : List ℕ → Front → Type 0
Sound text End = text ≡ []
Sound text (Passed n) = IsBetween text n
Sound text (Token k n) = Found text k n
Sound text BadByte = Bad text
Sound text OpenExplanation = begins text (codes "//") ≡ true
Sound text LongNumber = FoundLong text

take_one : (n b : ℕ) (bs : List ℕ) → take (1 + n) (b ∷ bs) ≡ b ∷ take n bs
take_one n b bs = let e : 1 + n ≡ suc n = omega arith in ap (λ (k : ℕ). take k (b ∷ bs)) e

take_two : (n a b : ℕ) (bs : List ℕ) → take (2 + n) (a ∷ b ∷ bs) ≡ a ∷ b ∷ take n bs
take_two n a b bs =
    let e : 2 + n ≡ suc (suc n) = omega arith in ap (λ (k : ℕ). take k (a ∷ b ∷ bs)) e

-- ---- explanations
-- up to the first `//` and with it
record Closed (text : List ℕ) (n : ℕ) : Type 0 where
  inside : List ℕ
  made : take n text ≡ inside ++ codes "//"
  count : n ≡ length inside + 2
  next : (i : ℕ) → i < length inside → begins (drop i (inside ++ codes "//")) (codes "//") ≡ false

begins_taken : (b m : ℕ) (bs : List ℕ) → 0 < m
    → begins (b ∷ take m bs) (codes "//") ≡ begins (b ∷ bs) (codes "//")
begins_taken b zero bs h = absurd (omega arith)
begins_taken b (suc m) [] h = refl
begins_taken b (suc m) (c ∷ bs) h = refl

closed : (text : List ℕ) (n : ℕ) → closing text ≡ Some n → Closed text n
closed [] n h = absurd (cc)
closed (b ∷ bs) n h = go (λ m. closed bs m) (begins (b ∷ bs) (codes "//")) refl h
  where
    further : (t : Bool) → begins (b ∷ bs) (codes "//") ≡ false → (m : ℕ) → n ≡ 1 + m → Closed bs m
        → Closed (b ∷ bs) n
    further t e m q c = record {
      inside = b ∷ c.inside;
      made = subst (λ (n : ℕ). take n (b ∷ bs) ≡ b ∷ (c.inside ++ codes "//")) (sym q)
          (take_one m b bs ∙ ap (λ (xs : List ℕ). b ∷ xs) c.made);
      count = let r = c.count in omega (arith, r);
      next = next;
    }
      where
        first : begins (b ∷ (c.inside ++ codes "//")) (codes "//") ≡ false
        first =
            let r = c.count in
            subst (λ (xs : List ℕ). begins (b ∷ xs) (codes "//") ≡ false) c.made
            (begins_taken b m bs (omega (arith, r)) ∙ e)

        next : (i : ℕ) → i < length (b ∷ c.inside)
            → begins (drop i (b ∷ (c.inside ++ codes "//"))) (codes "//") ≡ false
        next zero l = first
        next (suc i) l = c.next i (omega arith)

    mapped : begins (b ∷ bs) (codes "//") ≡ false → (o : Option ℕ)
        → ((m : ℕ) → o ≡ Some m → Closed bs m) → option_map (λ n. 1 + n) o ≡ Some n
        → Closed (b ∷ bs) n
    mapped e None f q = absurd (cc)
    mapped e (Some m) f q = let r : 1 + m ≡ n = cc in further true e m (sym r) (f m refl)

    go : ((m : ℕ) → closing bs ≡ Some m → Closed bs m) → (t : Bool)
        → begins (b ∷ bs) (codes "//") ≡ t
        → (if t then Some 2 else option_map (λ n. 1 + n) (closing bs)) ≡ Some n → Closed (b ∷ bs) n
    go f true e q = let r : 2 ≡ n = cc in record {
      inside = [];
      made = subst (λ (n : ℕ). take n (b ∷ bs) ≡ codes "//") r
          (ap (take 2) (first_two 47 47 (b ∷ bs) e));
      count = sym r;
      next = λ i l. absurd (omega arith);
    }
    go f false e q = mapped e (closing bs) f q

not_hex : (text : List ℕ) → begins text (codes "0x") ≡ false → IsOpenHex text → ⊥
not_hex text e h = let o = h.opened in absurd (cc)

explanation_sound : (text : List ℕ) → begins text (codes "//") ≡ true
    → Sound text (explanation_front text)
explanation_sound text e = go (closing (drop 2 text)) (λ n. closed (drop 2 text) n)
  where
    same : text ≡ 47 ∷ 47 ∷ drop 2 text
    same = first_two 47 47 text e

    go : (o : Option ℕ) → ((n : ℕ) → o ≡ Some n → Closed (drop 2 text) n)
        → Sound text (option_map_or (λ n. Token kind.Explanation (2 + n)) o OpenExplanation)
    go None f = e
    go (Some n) f = let c = f n refl in record {
      token = record {
        inside = c.inside;
        made = ap (take (2 + n)) same ∙ take_two n 47 47 (drop 2 text)
            ∙ ap (λ (xs : List ℕ). 47 ∷ 47 ∷ xs) c.made;
        next = c.next;
      };
      few = tt;
      closed = λ h. not_hex text
          (subst (λ (t : List ℕ). begins t (codes "0x") ≡ false) (sym same) refl) h;
    }

-- ---- hexadecimal numbers
hex_sound : (text : List ℕ) → begins text (codes "0x") ≡ true → Sound text (hex_front text)
hex_sound text e =
    let d = prefix_len is_ascii_hexdigit (drop 2 text) in
    either (Sound text) (nat_eq d 0) _ _
    (λ h. open_hex (record { opened = e; none = eqb-true d 0 h }))
    (λ h. both_sides (λ (n : ℕ). Found text kind.Hex n) (nat_eq d 1) 3 4
    (λ g. some 1 (eqb-false d 0 h) (omega arith) (omega arith) (omega (arith, eqb-true d 1 g)))
    (λ g. some 2 (eqb-false d 0 h) (omega arith) (omega arith)
    (omega (arith, eqb-false d 0 h, eqb-false d 1 g))))
  where
    same : text ≡ 48 ∷ 120 ∷ drop 2 text
    same = first_two 48 120 text e

    some : (n : ℕ) → (prefix_len is_ascii_hexdigit (drop 2 text) ≡ 0 → ⊥) → 0 < n → n ≤ 2
        → n ≤ prefix_len is_ascii_hexdigit (drop 2 text) → Found text kind.Hex (2 + n)
    some n z l m h =
        let count : length (take n (drop 2 text))
        ≡ n = length-take-le n (drop 2 text)
        (omega (arith, h, prefix_len-le-length is_ascii_hexdigit (drop 2 text))) in
        record {
          token = record {
            digits = take n (drop 2 text);
            made = ap (take (2 + n)) same ∙ take_two n 48 120 (drop 2 text);
            some = omega arith;
            few = omega arith;
            hexadecimal = run_passes is_ascii_hexdigit n (drop 2 text) h;
          };
          few = tt;
          closed = λ g. z g.none;
        }

-- ---- words
word_kind : (w : List ℕ) (b : ℕ) (bs : List ℕ) → w ≡ b ∷ bs → is_ascii_alphabetic b ≡ true
    → AllPass is_name_byte bs → IsToken (kind_of_word w) w × HasFewDigits (kind_of_word w) w
word_kind w b bs e h all = go (keyword_of w) refl
  where
    free : keyword_of w ≡ None → (k : Keyword) → w ≡ word_of k → ⊥
    free n k q =
        let f = known k in
        let g : keyword_of w ≡ keyword_of (word_of k) = ap keyword_of q in absurd (cc)

    go : (o : Option Keyword) → keyword_of w ≡ o
        → IsToken (option_map_or (λ k. kind.Keyword k) o kind.Name) w
        × HasFewDigits (option_map_or (λ k. kind.Keyword k) o kind.Name) w
    go None q = (
      record {
        first = b;
        rest = bs;
        made = e;
        letter = h;
        behind = all;
        free = free q;
      },
      tt,
    )
    go (Some k) q = (found w k q, tt)

word_sound : (b : ℕ) (bs : List ℕ) → is_ascii_alphabetic b ≡ true
    → begins (b ∷ bs) (codes "0x") ≡ false → Sound (b ∷ bs) (word_front (b ∷ bs))
word_sound b bs h x =
    let n = prefix_len is_name_byte bs in
    let e : prefix_len is_name_byte (b ∷ bs) ≡ 1 + n = rw (name_byte b h) refl in
    let k = word_kind (take (prefix_len is_name_byte (b ∷ bs)) (b ∷ bs)) b (take n bs)
    (ap (λ (n : ℕ). take n (b ∷ bs)) e ∙ take_one n b bs) h
    (run_passes is_name_byte n bs (omega arith)) in
    record { token = k.0; few = k.1; closed = not_hex (b ∷ bs) x }

-- ---- marks
abbrev mark_bytes : (b : ℕ) (o : Option Mark) → Type 0
mark_bytes b None = Unit {0}
mark_bytes b (Some m) = b ∷ [] ≡ bytes_of_mark m

mark_is : (b : ℕ) → mark_bytes b (byte_mark b)
mark_is b =
    let P : Option Mark → Type 0 = mark_bytes b in
    let f : (c : ℕ) → nat_eq b c ≡ true
    → b ∷ [] ≡ c ∷ [] = λ c e. ap (λ (x : ℕ). x ∷ []) (eqb-true b c e) in
    both_sides P (nat_eq b 59) _ _ (f 59)
    (λ _. both_sides P (nat_eq b 58) _ _ (f 58)
    (λ _. both_sides P (nat_eq b 44) _ _ (f 44)
    (λ _. both_sides P (nat_eq b 61) _ _ (f 61)
    (λ _. both_sides P (nat_eq b 40) _ _ (f 40)
    (λ _. both_sides P (nat_eq b 41) _ _ (f 41)
    (λ _. both_sides P (nat_eq b 91) _ _ (f 91)
    (λ _. both_sides P (nat_eq b 93) _ _ (f 93)
    (λ _. both_sides P (nat_eq b 42) _ _ (f 42)
    (λ _. both_sides P (nat_eq b 62) _ _ (f 62)
    (λ _. both_sides P (nat_eq b 46) _ _ (f 46) (λ _. tt)))))))))))

mark_sound : (b : ℕ) (bs : List ℕ) → Clear (b ∷ bs) → begins (b ∷ bs) (codes "0x") ≡ false
    → Sound (b ∷ bs) (mark_front (b ∷ bs))
mark_sound b bs c x =
    either (Sound (b ∷ bs)) (begins (b ∷ bs) (codes "..")) _ _
    (λ e. record {
      token = ap (take 2) (first_two 46 46 (b ∷ bs) e);
      few = tt;
      closed = not_hex (b ∷ bs) x;
    })
    (λ _. either (Sound (b ∷ bs)) (begins (b ∷ bs) (codes "->")) _ _
    (λ e. record {
      token = ap (take 2) (first_two 45 62 (b ∷ bs) e);
      few = tt;
      closed = not_hex (b ∷ bs) x;
    })
    (λ _. one (byte_mark b) (mark_is b)))
  where
    one : (o : Option Mark) → mark_bytes b o
        → Sound (b ∷ bs) (option_map_or (λ m. Token (kind.Mark m) 1) o BadByte)
    one None h = clear c
    one (Some m) h = record { token = h; few = tt; closed = not_hex (b ∷ bs) x }

-- ---- numbers
sign_is : (text : List ℕ) → IsSign (take (sign_length text) text)
sign_is text = a_plus (begins text (codes "+")) refl
  where
    a_minus : (t : Bool) → begins text (codes "-") ≡ t → IsSign (take (if t then 1 else 0) text)
    a_minus true e = subst IsSign (sym (ap (take 1) (first_one 45 text e))) minus
    a_minus false e = unsigned

    a_plus : (t : Bool) → begins text (codes "+") ≡ t
        → IsSign (take (if t || begins text (codes "-") then 1 else 0) text)
    a_plus true e = subst IsSign (sym (ap (take 1) (first_one 43 text e))) plus
    a_plus false e = a_minus (begins text (codes "-")) refl

-- the digits behind a full stop at the front
decimals_run : (x : List ℕ) → (decimals_of x ≡ 0 → ⊥)
    → (begins x (codes ".") ≡ true) × (decimals_of x ≡ prefix_len is_ascii_digit (drop 1 x))
decimals_run x = go (begins x (codes ".")) refl
  where
    go : (t : Bool) → begins x (codes ".") ≡ t
        → ((if t then prefix_len is_ascii_digit (drop 1 x) else 0) ≡ 0 → ⊥)
        → (begins x (codes ".") ≡ true)
        × ((if t then prefix_len is_ascii_digit (drop 1 x) else 0)
        ≡ prefix_len is_ascii_digit (drop 1 x))
    go true e f = (e, refl)
    go false e f = absurd (f refl)

-- a full stop and d digits
fraction_is : (d : ℕ) (x : List ℕ) → (d ≡ 0 → ⊥) → d ≤ length (drop 1 x)
    → begins x (codes ".") ≡ true → take (1 + d) x ≡ fraction (take d (drop 1 x))
fraction_is zero x h l e = absurd (h refl)
fraction_is (suc d) x h l e = ap (take (1 + suc d)) (first_one 46 x e)
    ∙ take_one (suc d) 46 (drop 1 x) ∙ go (drop 1 x) l
  where
    go : (y : List ℕ) → suc d ≤ length y → 46 ∷ take (suc d) y ≡ fraction (take (suc d) y)
    go [] l = absurd (omega arith)
    go (c ∷ y) l = refl

-- the number of a sign of s bytes, w digits and d decimals
record Numbered (text bytes : List ℕ) (w d : ℕ) : Type 0 where
  number : IsNumber bytes
  whole : length number.whole ≡ w
  decimals : length number.decimals ≡ d

numbered : (s w d : ℕ) (text : List ℕ) → IsSign (take s text) → (w ≡ 0 → ⊥)
    → w ≤ prefix_len is_ascii_digit (drop s text)
    → ((d ≡ 0 → ⊥) → (begins (drop (s + w) text) (codes ".") ≡ true)
    × (d ≤ prefix_len is_ascii_digit (drop 1 (drop (s + w) text))))
    → Numbered text (take (s + w + (if nat_eq d 0 then 0 else 1) + d) text) w d
numbered s w d text sign z run behind = go (nat_eq d 0) refl
  where
    count : length (take w (drop s text)) ≡ w
    count = length-take-le w (drop s text)
        (omega (arith, run, prefix_len-le-length is_ascii_digit (drop s text)))

    parts : take (s + w) text ≡ take s text ++ take w (drop s text)
    parts = take-add s w text

    stop : (nat_eq d 0 ≡ false) → Numbered text (take (s + w + 1 + d) text) w d
    stop e =
        let ne = eqb-false d 0 e in
        let b = behind ne in
        let rest = drop (s + w) text in
        let run = b.1 in
        let fits : d ≤ length (drop 1 rest) = omega
        (arith, run, prefix_len-le-length is_ascii_digit (drop 1 rest)) in
        let sum : s + w + 1 + d ≡ (s + w) + (1 + d) = omega arith in
        record {
          number = record {
            sign = take s text;
            whole = take w (drop s text);
            decimals = take d (drop 1 rest);
            made = ap (λ (n : ℕ). take n text) sum ∙ take-add (s + w) (1 + d) text
                ∙ ap (λ (xs : List ℕ). xs ++ take (1 + d) rest) parts
                ∙ append_assoc (take s text) (take w (drop s text)) (take (1 + d) rest)
                ∙ ap (λ (xs : List ℕ). take s text ++ (take w (drop s text) ++ xs))
                (fraction_is d rest ne fits b.0);
            signed = sign;
            some = omega (arith, count, z);
            digits = run_passes is_ascii_digit w (drop s text) run-w;
            behind = run_passes is_ascii_digit d (drop 1 rest) run;
          };
          whole = count;
          decimals = length-take-le d (drop 1 rest) fits;
        }
      where
        run-w : w ≤ prefix_len is_ascii_digit (drop s text)
        run-w = run

    plain : d ≡ 0 → Numbered text (take (s + w + 0 + d) text) w d
    plain e =
        let sum : s + w + 0 + d ≡ s + w = omega arith in
        record {
          number = record {
            sign = take s text;
            whole = take w (drop s text);
            decimals = [];
            made = ap (λ (n : ℕ). take n text) sum ∙ parts
                ∙ ap (λ (xs : List ℕ). take s text ++ xs) (sym (append-nil (take w (drop s text))));
            signed = sign;
            some = omega (arith, count, z);
            digits = run_passes is_ascii_digit w (drop s text) run;
            behind = run_passes is_ascii_digit 0 text (omega arith);
          };
          whole = count;
          decimals = sym e;
        }

    go : (t : Bool) → nat_eq d 0 ≡ t
        → Numbered text (take (s + w + (if t then 0 else 1) + d) text) w d
    go true e = plain (eqb-true d 0 e)
    go false e = stop e

number_sound : (b : ℕ) (bs : List ℕ) → Clear (b ∷ bs) → begins (b ∷ bs) (codes "0x") ≡ false
    → Sound (b ∷ bs) (number_front (b ∷ bs))
number_sound b bs c x =
    let text = b ∷ bs in
    let s = sign_length text in
    let w = prefix_len is_ascii_digit (drop s text) in
    let d = decimals_of (drop (s + w) text) in
    either (Sound text) (nat_eq w 0) _ _ (λ _. mark_sound b bs c x)
    (λ z. let n = number (eqb-false w 0 z) in
    either (Sound text) (nat_lt 9 d || nat_lt 18 (w + d)) _ _
    (λ long. record {
      within = (number_part text (eqb-false w 0 z)).within;
      number = n.number;
      long = too_long w d n.number n.whole n.decimals long;
    })
    (λ few. record {
      token = n.number;
      few = (n.number, short w d n.number n.whole n.decimals few);
      closed = not_hex text x;
    }))
  where
    number : (prefix_len is_ascii_digit (drop (sign_length (b ∷ bs)) (b ∷ bs)) ≡ 0 → ⊥)
        → Numbered (b ∷ bs) (take (number_length (b ∷ bs)) (b ∷ bs))
        (prefix_len is_ascii_digit (drop (sign_length (b ∷ bs)) (b ∷ bs)))
        (decimals_of
        (drop (sign_length (b ∷ bs) + prefix_len is_ascii_digit
        (drop (sign_length (b ∷ bs)) (b ∷ bs))) (b ∷ bs)))
    number z =
        let text = b ∷ bs in
        let s = sign_length text in
        let w = prefix_len is_ascii_digit (drop s text) in
        numbered s w (decimals_of (drop (s + w) text)) text (sign_is text) z (omega arith)
        (λ ne. let r = decimals_run (drop (s + w) text) ne in (r.0, at_most _ _ r.1))
      where
        at_most : (m n : ℕ) → m ≡ n → m ≤ n
        at_most m n e = omega arith

    short : (w d : ℕ) {bytes : List ℕ} (n : IsNumber bytes) → length n.whole ≡ w
        → length n.decimals ≡ d → (nat_lt 9 d || nat_lt 18 (w + d)) ≡ false → IsShort n
    short w d n e f h =
        let p = or_parts (nat_lt 9 d) (nat_lt 18 (w + d)) h in
        let q = ltb-false 9 d p.0 in
        let r = ltb-false 18 (w + d) p.1 in
        record { all = omega arith; behind = omega arith }

    too_long : (w d : ℕ) {bytes : List ℕ} (n : IsNumber bytes) → length n.whole ≡ w
        → length n.decimals ≡ d → (nat_lt 9 d || nat_lt 18 (w + d)) ≡ true → IsShort n → ⊥
    too_long w d n e f h few = let p = few.all in let q = few.behind in go (nat_lt 9 d) refl h
      where
        go : (t : Bool) → nat_lt 9 d ≡ t → (t || nat_lt 18 (w + d)) ≡ true → ⊥
        go true g h = omega (arith, e, f, few.all, few.behind, ltb-true 9 d g)
        go false g h = omega (arith, e, f, few.all, few.behind, ltb-true 18 (w + d) h)

-- ---- the whole
pub sound : (text : List ℕ) → Sound text (front_of text)
sound [] = refl
sound (b ∷ bs) =
    let t = b ∷ bs in
    let P = Sound t in
    either P (is_blank b) _ _ (λ e. blank e refl)
    (λ free. either P (begins t (codes "!!")) _ _ (λ e. comment e refl)
    (λ c. either P (begins t (codes "//")) _ _ (λ e. explanation_sound t e)
    (λ x. either P (begins t (codes "0x")) _ _ (λ e. hex_sound t e)
    (λ h. either P (is_ascii_alphabetic b) _ _ (λ e. word_sound b bs e h)
    (λ e. number_sound b bs (record {
      some = λ q. absurd (cc);
      blank = free;
      comment = c;
      explanation = x;
    }) h)))))
