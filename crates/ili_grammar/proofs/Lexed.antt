-- What is known of the tokens of a text: how many there are, and how long numbers are.
use Rattle.std.proofs.Common.{◌≡◌, ℕ, ◌+◌, ◌-◌, ◌≤◌, List, [], ◌∷◌, ◌++◌, length, drop, Bool, true}
use Rattle.std.proofs.Common.{false, cond, refl, sym, ap, ◌∙◌, subst, arith, nat_eq, nat_le}
use Rattle.std.proofs.Common.{count_by}
use Rattle.std.specs.List.{AllPass}
use Rattle.std.specs.Char.{is_ascii_digit}
use Rattle.std.specs.Cmp.Derive.{both_true}
use Rattle.std.proofs.lemmas.Bool.Decides.{nat_tests}
use Rattle.std.proofs.lemmas.List.Sums.{sum_by-append, count_by-le-length}
use Rattle.std.proofs.lemmas.List.Elements.{All-head, All-tail}
use Rattle.ili_lexer.specs.declared.tokens.Token.{Token}
use Rattle.ili_lexer.specs.declared.tokens.Kind.{Kind}
use Rattle.ili_lexer.specs.declared.tokens.Kind.TheVariants as kind
use Rattle.ili_lexer.specs.Forms.{IsSign, unsigned, plus, minus, fraction, IsNumber, IsShort, IsHex}
use Rattle.ili_lexer.specs.Forms.{IsToken}
use Rattle.ili_lexer.specs.Longest.{IsTaken, HasFewDigits}
use Rattle.ili_lexer.specs.Tokens.{AreInOrder, AreLongest}
use Rattle.ili_grammar.specs.Tokens as grammar
use Rattle.ili_grammar.specs.Kinds.{same_kind}
use Rattle.ili_grammar.specs.Numbers.{is_short, decimals}
use Rattle.ili_grammar.specs.Slices.{kind_of, bytes_of, is_short_token, are_short}
use Rattle.ili_grammar.proofs.SameKind.{same_is}
use Rattle.ili_grammar.proofs.KindBack.{kinds_differ}

-- ---- how many tokens there are
count_in_order : (end from : ℕ) (ts : List Token) → AreInOrder end from ts → from + length ts ≤ end
count_in_order end from [] p = omega (arith, p)
count_in_order end from (t ∷ ts) p = omega (arith, p.0, p.1, count_in_order end t.upto ts p.2)

pub few_tokens : (text : List ℕ) (ts : List Token) → AreInOrder (length text) 0 ts
    → length ts ≤ length text
few_tokens text ts p = omega (arith, count_in_order (length text) 0 ts p)

-- ---- how long numbers are
abbrev digits : List ℕ → ℕ
digits = count_by is_ascii_digit

digits_append : (xs ys : List ℕ) → digits (xs ++ ys) ≡ digits xs + digits ys
digits_append = sum_by-append (λ x. cond (is_ascii_digit x) 1 0)

sign_digits : (sign : List ℕ) → IsSign sign → digits sign ≡ 0
sign_digits _ unsigned = refl
sign_digits _ plus = refl
sign_digits _ minus = refl

fraction_digits : (ds : List ℕ) → digits (fraction ds) ≤ length ds
fraction_digits [] = omega arith
fraction_digits (d ∷ ds) =
    let e : digits (46 ∷ d ∷ ds) ≡ digits (d ∷ ds) = digits_append (46 ∷ []) (d ∷ ds)
    ∙ none (digits (d ∷ ds)) in
    omega (arith, e, count_by-le-length is_ascii_digit (d ∷ ds))
  where
    none : (n : ℕ) → 0 + n ≡ n
    none n = omega arith

-- the decimals of what follows a sign and digits
behind_sign : (sign xs : List ℕ) → IsSign sign → decimals (sign ++ xs) ≡ decimals xs
behind_sign _ xs unsigned = refl
behind_sign _ xs plus = refl
behind_sign _ xs minus = refl

behind_digits : (whole xs : List ℕ) → AllPass is_ascii_digit whole
    → decimals (whole ++ xs) ≡ decimals xs
behind_digits [] xs all = refl
behind_digits (b ∷ bs) xs all =
    rw (no_stop b (All-head (λ x. is_ascii_digit x ≡ true) b bs all))
    (behind_digits bs xs (All-tail (λ x. is_ascii_digit x ≡ true) b bs all))
  where
    no_stop : (b : ℕ) → is_ascii_digit b ≡ true → nat_eq b 46 ≡ false
    no_stop b e = grind (arith, nat_tests)

of_fraction : (ds : List ℕ) → decimals (fraction ds) ≡ length ds
of_fraction [] = refl
of_fraction (d ∷ ds) = refl

le_true : (a b : ℕ) → a ≤ b → nat_le a b ≡ true
le_true a b h = grind (arith, nat_tests)

number_short : (bytes : List ℕ) (n : IsNumber bytes) → IsShort n → is_short bytes ≡ true
number_short bytes n s =
    let tail = n.whole ++ fraction n.decimals in
    let all : digits bytes ≡ digits n.sign + (digits n.whole + digits (fraction n.decimals)) =
    ap digits n.made ∙ digits_append n.sign tail
    ∙ ap (λ (k : ℕ). digits n.sign + k) (digits_append n.whole (fraction n.decimals)) in
    let behind : decimals bytes ≡ length n.decimals = ap decimals n.made
    ∙ behind_sign n.sign tail n.signed ∙ behind_digits n.whole (fraction n.decimals) n.digits
    ∙ of_fraction n.decimals in
    both_true (le_true (digits bytes) 18
    (omega (
      arith,
      all,
      sign_digits n.sign n.signed,
      count_by-le-length is_ascii_digit n.whole,
      fraction_digits n.decimals,
      s.all,
    )))
    (le_true (decimals bytes) 9 (omega (arith, behind, s.behind)))

hex_short : (bytes : List ℕ) → IsHex bytes → length bytes ≤ 4
hex_short bytes h = let e = ap (length {A = ℕ}) h.made in omega (arith, e, h.few)

-- ---- all tokens
token_short : (text : List ℕ) (t : Token) → IsTaken (drop t.from text) t.kind (t.upto - t.from)
    → is_short_token text t ≡ true
token_short text t h =
    both_true (number (same_kind grammar.number (kind_of t.kind)) refl)
    (hex (same_kind grammar.hex (kind_of t.kind)) refl)
  where
    short : HasFewDigits kind.Number (bytes_of text t) → is_short (bytes_of text t) ≡ true
    short (n, s) = number_short (bytes_of text t) n s

    number : (b : Bool) → same_kind grammar.number (kind_of t.kind) ≡ b
        → cond b (is_short (bytes_of text t)) true ≡ true
    number false q = refl
    number true q =
        let k = kinds_differ t.kind kind.Number (sym (same_is grammar.number (kind_of t.kind) q)) in
        short (subst (λ (k : Kind). HasFewDigits k (bytes_of text t)) k h.few)

    hex : (b : Bool) → same_kind grammar.hex (kind_of t.kind) ≡ b
        → cond b (nat_le (length (bytes_of text t)) 4) true ≡ true
    hex false q = refl
    hex true q =
        let k = kinds_differ t.kind kind.Hex (sym (same_is grammar.hex (kind_of t.kind) q)) in
        le_true (length (bytes_of text t)) 4
        (hex_short (bytes_of text t)
        (subst (λ (k : Kind). IsToken k (bytes_of text t)) k h.longest.stands.token))

pub short_tokens : (text : List ℕ) (ts : List Token) → AreLongest text ts → are_short text ts ≡ true
short_tokens text [] all = refl
short_tokens text (t ∷ ts) all =
    let P : Token → Type 0 = λ t. IsTaken (drop t.from text) t.kind (t.upto - t.from) in
    both_true (token_short text t (All-head P t ts all))
    (short_tokens text ts (All-tail P t ts all))
