-- A number at the front of a text is found there, or a longer one is; and its digits are counted in
-- one way.
use Rattle.std.proofs.Common.{◌≡◌, ℕ, ◌+◌, ◌<◌, ◌≤◌, List, [], ◌∷◌, ◌++◌, length, take, drop, Bool}
use Rattle.std.proofs.Common.{true, false, refl, sym, ap, ◌∙◌, subst, arith, codes, nat_eq, nat_lt}
use Rattle.std.proofs.Common.{nat_le, append_assoc, append-nil, length-append}
use Rattle.std.proofs.lemmas.Bool.{eqb-true, and_parts, leb-true, lt-leb}
use Rattle.std.proofs.lemmas.List.{take-append-drop, length-take-le, drop-drop}
use Rattle.std.specs.Prelude.{◌||◌, if◌then◌else◌}
use Rattle.std.specs.List.{prefix_len, AllPass}
use Rattle.std.proofs.lemmas.List.Elements.{All-head, All-tail}
use Rattle.std.specs.Char.{is_ascii_alphabetic, is_ascii_digit}
use Rattle.ili_lexer.specs.declared.tokens.Kind.{Kind}
use Rattle.ili_lexer.specs.declared.tokens.Kind.TheVariants as kind
use Rattle.ili_lexer.specs.Bytes.{is_blank}
use Rattle.ili_lexer.specs.Fronts.{begins, front_of, hex_front, number_front, sign_length}
use Rattle.ili_lexer.specs.Fronts.{decimals_of}
use Rattle.ili_lexer.specs.Forms.{IsSign, unsigned, plus, minus, fraction, IsNumber, IsShort}
use Rattle.ili_lexer.specs.Forms.{IsToken}
use Rattle.ili_lexer.specs.Longest.{Stands}
use Rattle.ili_lexer.proofs.FrontLengths.{number_from, number_length}
use Rattle.ili_lexer.proofs.Runs.{both_sides, other_byte, no_front, first_two, run_append}
use Rattle.ili_lexer.proofs.Reach.{Reaches, At, not_blank, open_reaches, name_reaches}
use Rattle.ili_lexer.proofs.Reach.{keyword_reaches, hex_reaches, explanation_reaches, mark_reaches}

abbrev run : List ℕ → ℕ
run = prefix_len is_ascii_digit

-- what is counted of the bytes behind a sign, which begin with these digits and decimals
record Counts (s : ℕ) (text whole decimals rest : List ℕ) : Type 0 where
  digits : length whole ≤ run (drop s text)
  reach : s + length (whole ++ fraction decimals) ≤ number_from s text
  all : rest ≡ [] → run (drop s text) ≡ length whole
  behind : rest ≡ [] → decimals_of (drop (s + run (drop s text)) text) ≡ length decimals

drop_front : (xs ys : List ℕ) → drop (length xs) (xs ++ ys) ≡ ys
drop_front [] ys = refl
drop_front (x ∷ xs) ys = drop_front xs ys

counts : (s : ℕ) (text whole decimals rest : List ℕ)
    → drop s text ≡ (whole ++ fraction decimals) ++ rest → AllPass is_ascii_digit whole
    → AllPass is_ascii_digit decimals → Counts s text whole decimals rest
counts s text whole [] rest e all behind =
    let f : drop s text ≡ whole ++ rest = e ∙ ap (λ (xs : List ℕ). xs ++ rest) (append-nil whole) in
    let w : run (drop s text) ≡ length whole + run rest = ap run f
    ∙ run_append is_ascii_digit whole rest all in
    let plain : length (whole ++ []) ≡ length whole = ap (length {A = ℕ}) (append-nil whole) in
    record {
      digits = omega (arith, w);
      reach = omega (arith, w, plain);
      all = λ z. w ∙ no_more z;
      behind = λ z. ap decimals_of (ends z (run (drop s text)) (w ∙ no_more z) f);
    }
  where
    no_more : rest ≡ [] → length whole + run rest ≡ length whole
    no_more z = let r : run rest ≡ 0 = ap run z in omega (arith, r)

    ends : rest ≡ [] → (n : ℕ) → n ≡ length whole → drop s text ≡ whole ++ rest
        → drop (s + n) text ≡ []
    ends z n q f = sym (drop-drop n s text) ∙ ap (drop n) f
        ∙ ap (λ (k : ℕ). drop k (whole ++ rest)) q ∙ drop_front whole rest ∙ z
counts s text whole (d ∷ ds) rest e all behind =
    let tail = 46 ∷ ((d ∷ ds) ++ rest) in
    let f : drop s text ≡ whole ++ tail = e ∙ append_assoc whole (46 ∷ d ∷ ds) rest in
    let w : run (drop s text) ≡ length whole = ap run f ∙ run_append is_ascii_digit whole tail all
    ∙ none (length whole) in
    let at_stop : drop (s + run (drop s text)) text
    ≡ tail = sym (drop-drop (run (drop s text)) s text) ∙ ap (drop (run (drop s text))) f
    ∙ ap (λ (k : ℕ). drop k (whole ++ tail)) w ∙ drop_front whole tail in
    let b : decimals_of (drop (s + run (drop s text)) text)
    ≡ length (d ∷ ds) + run rest = ap decimals_of at_stop
    ∙ run_append is_ascii_digit (d ∷ ds) rest behind in
    let long : length (whole ++ (46 ∷ d ∷ ds))
    ≡ length whole + length (46 ∷ d ∷ ds) = length-append whole (46 ∷ d ∷ ds) in
    record {
      digits = omega (arith, w);
      reach = sum (run (drop s text)) (decimals_of (drop (s + run (drop s text)) text)) w b long;
      all = λ z. w;
      behind = λ z. b ∙ no_more z;
    }
  where
    none : (n : ℕ) → n + 0 ≡ n
    none n = omega arith

    no_more : rest ≡ [] → length (d ∷ ds) + run rest ≡ length (d ∷ ds)
    no_more z = let r : run rest ≡ 0 = ap run z in omega (arith, r)

    sum : (w b : ℕ) → w ≡ length whole → b ≡ length (d ∷ ds) + run rest
        → length (whole ++ (46 ∷ d ∷ ds)) ≡ length whole + length (46 ∷ d ∷ ds)
        → s + length (whole ++ (46 ∷ d ∷ ds)) ≤ s + w + (if nat_eq b 0 then 0 else 1) + b
    sum w b p q r =
        both_sides (λ (n : ℕ). s + length (whole ++ (46 ∷ d ∷ ds)) ≤ s + w + n + b) (nat_eq b 0) 0 1
        (λ e. let z = eqb-true b 0 e in absurd (omega (arith, z, q))) (λ _. omega (arith, p, q, r))

-- ---- the sign
first_digit : (whole more : List ℕ) → 0 < length whole → AllPass is_ascii_digit whole
    → sign_length (whole ++ more) ≡ 0
first_digit [] more h all = absurd (omega arith)
first_digit (d ∷ ds) more h all =
    let p = All-head (λ x. is_ascii_digit x ≡ true) d ds all in
    let e = no_front 43 d [] (ds ++ more) (other_byte is_ascii_digit d 43 p refl) in
    let f = no_front 45 d [] (ds ++ more) (other_byte is_ascii_digit d 45 p refl) in
    go (begins (d ∷ (ds ++ more)) (codes "+")) (begins (d ∷ (ds ++ more)) (codes "-")) e f
  where
    go : (s t : Bool) → s ≡ false → t ≡ false → ◌≡◌ {A = ℕ} (if s || t then 1 else 0) 0
    go true t e f = absurd (cc)
    go false true e f = absurd (cc)
    go false false e f = refl

-- ---- a number and what follows it
front_reaches : (text : List ℕ) (m : ℕ) → (run (drop (sign_length text) text) ≡ 0 → ⊥)
    → m ≤ number_length text → Reaches kind.Number m text (number_front text)
front_reaches text m z h =
    let w = run (drop (sign_length text) text) in
    let d = decimals_of (drop (sign_length text + w) text) in
    both_sides (Reaches kind.Number m text) (nat_eq w 0) _ _ (λ e. absurd (z (eqb-true w 0 e)))
    (λ _. both_sides (Reaches kind.Number m text) (nat_lt 9 d || nat_lt 18 (w + d)) _ _
    (λ _. (refl, h)) (λ _. (h, λ _. refl)))

signed_reaches : (text whole decimals rest : List ℕ)
    → drop (sign_length text) text ≡ (whole ++ fraction decimals) ++ rest → 0 < length whole
    → AllPass is_ascii_digit whole → AllPass is_ascii_digit decimals
    → (m : ℕ) → m ≡ sign_length text + length (whole ++ fraction decimals)
    → Reaches kind.Number m text (number_front text)
signed_reaches text whole decimals rest e some all behind m q =
    let c = counts (sign_length text) text whole decimals rest e all behind in
    front_reaches text m (λ z. let d = c.digits in omega (arith, z, d, some)) (let r = c.reach in
    omega (arith, q, r))

-- without a sign: `0x` may stand there
unsigned_reaches : (whole decimals rest : List ℕ) → 0 < length whole → AllPass is_ascii_digit whole
    → AllPass is_ascii_digit decimals → At kind.Number (whole ++ fraction decimals) rest
unsigned_reaches [] decimals rest some all behind = absurd (omega arith)
unsigned_reaches (d ∷ ds) decimals rest some all behind =
    let p = All-head (λ x. is_ascii_digit x ≡ true) d ds all in
    let bs = (ds ++ fraction decimals) ++ rest in
    let text = d ∷ bs in
    let m = length ((d ∷ ds) ++ fraction decimals) in
    let sign : sign_length text ≡ 0 = ap sign_length
    (append_assoc (d ∷ ds) (fraction decimals) rest)
    ∙ first_digit (d ∷ ds) (fraction decimals ++ rest) some all in
    passed (Reaches kind.Number m text) (is_blank d) _ _
    (not_blank is_ascii_digit d p refl refl refl refl)
    (passed (Reaches kind.Number m text) (begins text (codes "!!")) _ _
    (no_front 33 d (33 ∷ []) bs (other_byte is_ascii_digit d 33 p refl))
    (passed (Reaches kind.Number m text) (begins text (codes "//")) _ _
    (no_front 47 d (47 ∷ []) bs (other_byte is_ascii_digit d 47 p refl))
    (both_sides (Reaches kind.Number m text) (begins text (codes "0x")) _ _
    (λ x. let same = first_two 48 120 text x in
    subst (λ (t : List ℕ). Reaches kind.Number m t (hex_front t)) (sym same)
    (open_reaches m (drop 2 text) (alone ds decimals x all)))
    (λ _. passed (Reaches kind.Number m text) (is_ascii_alphabetic d) _ _ (no_letter d p)
    (signed_reaches text (d ∷ ds) decimals rest (ap (λ (n : ℕ). drop n text) sign) some all behind m
    (omega (arith, sign)))))))
  where
    passed : {A : Type 0} (P : A → Type 0) (t : Bool) (x y : A) → t ≡ false → P y
        → P (if t then x else y)
    passed P true x y h p = absurd (cc)
    passed P false x y h p = p

    no_letter : (d : ℕ) → is_ascii_digit d ≡ true → is_ascii_alphabetic d ≡ false
    no_letter d p =
        let below = leb-true d 57 (and_parts (nat_le 48 d) (nat_le d 57) p).1 in
        let e : nat_le 65 d ≡ false = lt-leb 65 d (omega arith) in
        let f : nat_le 97 d ≡ false = lt-leb 97 d (omega arith) in cc

    -- where `x` follows the first digit, that digit is the number
    alone : (ds decimals : List ℕ)
        → begins (d ∷ ((ds ++ fraction decimals) ++ rest)) (codes "0x") ≡ true
        → AllPass is_ascii_digit (d ∷ ds) → length ((d ∷ ds) ++ fraction decimals) ≡ 1
    alone [] [] x all = refl
    alone [] (c ∷ cs) x all = absurd (let k : false ≡ true = (and_parts (nat_eq 48 d) _ x).1 in cc)
    alone (e ∷ es) decimals x all =
        let f = eqb-true 120 e (and_parts (nat_eq 120 e) _ (and_parts (nat_eq 48 d) _ x).1).0 in
        let p = All-head (λ x. is_ascii_digit x ≡ true) e es
        (All-tail (λ x. is_ascii_digit x ≡ true) d (e ∷ es) all) in
        absurd (let k : is_ascii_digit 120
        ≡ true = subst (λ (x : ℕ). is_ascii_digit x ≡ true) (sym f) p in cc)

pub number_reaches : (bytes rest : List ℕ) → IsNumber bytes → At kind.Number bytes rest
number_reaches bytes rest n =
    subst (λ (xs : List ℕ). At kind.Number xs rest) (sym n.made) (go n.sign n.signed)
  where
    go : (sign : List ℕ) → IsSign sign
        → At kind.Number (sign ++ (n.whole ++ fraction n.decimals)) rest
    go _ unsigned = unsigned_reaches n.whole n.decimals rest n.some n.digits n.behind
    go _ plus = signed_reaches (43 ∷ ((n.whole ++ fraction n.decimals) ++ rest)) n.whole n.decimals
        rest refl n.some n.digits n.behind (length (43 ∷ (n.whole ++ fraction n.decimals)))
        (omega arith)
    go _ minus =
        signed_reaches (45 ∷ ((n.whole ++ fraction n.decimals) ++ rest)) n.whole n.decimals rest
        refl n.some n.digits n.behind (length (45 ∷ (n.whole ++ fraction n.decimals))) (omega arith)

-- ---- how many digits a number has
record Exact (bytes whole decimals : List ℕ) : Type 0 where
  digits : run (drop (sign_length bytes) bytes) ≡ length whole
  behind : decimals_of (drop (sign_length bytes + run (drop (sign_length bytes) bytes)) bytes)
      ≡ length decimals

exact : (bytes : List ℕ) (n : IsNumber bytes) → Exact bytes n.whole n.decimals
exact bytes n =
    subst (λ (xs : List ℕ). Exact xs n.whole n.decimals) (sym n.made) (go n.sign n.signed)
  where
    counted : (text : List ℕ) → drop (sign_length text) text ≡ n.whole ++ fraction n.decimals
        → Exact text n.whole n.decimals
    counted text e =
        let c = counts (sign_length text) text n.whole n.decimals [] (e
        ∙ sym (append-nil (n.whole ++ fraction n.decimals))) n.digits n.behind in
        record { digits = c.all refl; behind = c.behind refl }

    go : (sign : List ℕ) → IsSign sign
        → Exact (sign ++ (n.whole ++ fraction n.decimals)) n.whole n.decimals
    go _ unsigned =
        counted (n.whole ++ fraction n.decimals)
        (ap (λ (k : ℕ). drop k (n.whole ++ fraction n.decimals))
        (first_digit n.whole (fraction n.decimals) n.some n.digits))
    go _ plus = counted (43 ∷ (n.whole ++ fraction n.decimals)) refl
    go _ minus = counted (45 ∷ (n.whole ++ fraction n.decimals)) refl

-- two readings of the same bytes have as many digits
pub short_too : (bytes : List ℕ) (m n : IsNumber bytes) → IsShort m → IsShort n
short_too bytes m n s =
    let a = exact bytes m in
    let b = exact bytes n in
    let w : length m.whole ≡ length n.whole = sym a.digits ∙ b.digits in
    let d : length m.decimals ≡ length n.decimals = sym a.behind ∙ b.behind in
    let x = s.all in
    let y = s.behind in
    record { all = omega arith; behind = omega arith }

-- one byte is a short number
pub one_is_short : (bytes : List ℕ) (n : IsNumber bytes) → length bytes ≤ 1 → IsShort n
one_is_short bytes n h =
    let e = ap (length {A = ℕ}) n.made in
    let f = length-append n.sign (n.whole ++ fraction n.decimals) in
    let g = length-append n.whole (fraction n.decimals) in
    let k = fewer n.decimals in
    record { all = omega arith; behind = omega arith }
  where
    fewer : (ds : List ℕ) → length ds ≤ length (fraction ds)
    fewer [] = omega arith
    fewer (d ∷ ds) = omega arith

-- ---- any token
pub reaches : (k : Kind) (bytes rest : List ℕ) → IsToken k bytes → At k bytes rest
reaches kind.Name bytes rest t = name_reaches bytes rest t
reaches (kind.Keyword k) bytes rest t = keyword_reaches k bytes rest t
reaches kind.Number bytes rest t = number_reaches bytes rest t
reaches kind.Hex bytes rest t =
    subst (λ (xs : List ℕ). At kind.Hex xs rest) (sym t.made)
    (hex_reaches t.digits rest t.some t.few t.hexadecimal)
reaches kind.Explanation bytes rest t =
    subst (λ (xs : List ℕ). At kind.Explanation xs rest) (sym t.made)
    (explanation_reaches t.inside rest t.next)
reaches (kind.Mark m) bytes rest t =
    subst (λ (xs : List ℕ). At (kind.Mark m) xs rest) (sym t) (mark_reaches m rest)

pub stands_reaches : (text : List ℕ) (k : Kind) (n : ℕ) → Stands text k n
    → Reaches k n text (front_of text)
stands_reaches text k n s =
    subst (λ (m : ℕ). Reaches k m text (front_of text)) (length-take-le n text s.within)
    (subst (λ (t : List ℕ). Reaches k (length (take n text)) t (front_of t))
    (take-append-drop n text) (reaches k (take n text) (drop n text) s.token))
