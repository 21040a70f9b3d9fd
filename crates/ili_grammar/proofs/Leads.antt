-- The tokens of a text, one by one.
use Rattle.std.proofs.Common.{◌≡◌, ℕ, zero, suc, ◌+◌, ◌<◌, ◌≤◌, List, [], ◌∷◌, length, drop, get_or}
use Rattle.std.proofs.Common.{Option, Some, None, Bool, true, false, refl, sym, ap, ◌∙◌, subst}
use Rattle.std.proofs.Common.{arith, add-one, ◌&&◌, ◌-◌, ◌==◌, cond, count_by, nat_le}
use Rattle.std.proofs.lemmas.Bool.{and_parts, leb-true}
use Rattle.std.specs.Char.{is_ascii_digit}
use Rattle.ili_grammar.specs.Numbers.{is_short, decimals}
use Rattle.std.proofs.lemmas.List.{drop_all}
use Rattle.std.specs.Str.{bytes_eq}
use Rattle.std.proofs.lemmas.Slice.Eq.{bytes_eq-Decides}
use Rattle.ili_lexer.specs.declared.tokens.Kind as kind
use Rattle.ili_lexer.specs.declared.tokens.Kind.TheVariants as kinds
use Rattle.ili_lexer.specs.declared.tokens.Mark.TheVariants as marks
use Rattle.ili_lexer.specs.declared.keywords.Keyword as keyword
use Rattle.ili_grammar.specs.Tokens.{Kind}
use Rattle.ili_grammar.specs.Kinds.{same_kind, Not, Off}
use Rattle.ili_grammar.specs.Steps.{NoWord, Leads, leads_with, scales_here}
use Rattle.ili_grammar.specs.Codes.{begins_with_s}
use Rattle.std.proofs.lemmas.Bool.Decides.{nat_tests}
use Rattle.ili_grammar.proofs.SameKind.{same_is}
use Rattle.ili_grammar.proofs.KindBack.{kinds_differ}
use Rattle.ili_lexer.specs.declared.tokens.Token.{Token}
use Rattle.ili_grammar.specs.Tokens.{number, hex, Info, Tok, tok}
use Rattle.ili_grammar.specs.Slices.{kind_of, info_of, bytes_of, is_behind, is_short_token}
use Rattle.ili_grammar.specs.Slices.{are_short, toks_behind, toks}

-- what a slice of tokens gives past its end
abbrev pub nothing : Token
nothing = record { kind = kinds.Name; line = 0; column = 0; from = 0; upto = 0 }

-- the token before one
abbrev pub before : Option Token → List Token → ℕ → Token → Option Token
before p ts zero d = p
before p ts (suc i) d = Some (get_or ts i d)

leads_behind : (text : List ℕ) (p : Option Token) (ts : List Token) (i : ℕ) (d : Token)
    → i < length ts
    → drop i (toks_behind text p ts) ≡ tok (kind_of (get_or ts i d).kind)
    (info_of text (before p ts i d) (get_or ts i d)) ∷ drop (suc i) (toks_behind text p ts)
leads_behind text p [] i d h = absurd (omega arith)
leads_behind text p (t ∷ ts) zero d h = refl
leads_behind text p (t ∷ ts) (suc zero) d h = leads_behind text (Some t) ts zero d (omega arith)
leads_behind text p (t ∷ ts) (suc (suc i)) d h =
    leads_behind text (Some t) ts (suc i) d (omega arith)

pub leads : (text : List ℕ) (ts : List Token) (i : ℕ) (d : Token) → i < length ts
    → drop i (toks text ts) ≡ tok (kind_of (get_or ts i d).kind)
    (info_of text (before None ts i d) (get_or ts i d)) ∷ drop (i + 1) (toks text ts)
unfolding toks
leads text ts i d h = rw add-one (leads_behind text None ts i d h)

length_behind : (text : List ℕ) (p : Option Token) (ts : List Token)
    → length (toks_behind text p ts) ≡ length ts
length_behind text p [] = refl
length_behind text p (t ∷ ts) = ap suc (length_behind text (Some t) ts)

pub length-toks : (text : List ℕ) (ts : List Token) → length (toks text ts) ≡ length ts
unfolding toks
length-toks text ts = length_behind text None ts

-- ---- one token
pub none_left : (text : List ℕ) (ts : List Token) (i : ℕ) → length ts ≤ i
    → drop i (toks text ts) ≡ []
none_left text ts i h = drop_all i (toks text ts) (omega (arith, length-toks text ts))

pub leads_kind : (text : List ℕ) (ts : List Token) (i : ℕ) (d : Token) (k : kind.Kind)
    → i < length ts → (get_or ts i d).kind ≡ k
    → Leads (kind_of k) (drop i (toks text ts)) (drop (i + 1) (toks text ts))
leads_kind text ts i d k h e = (
  info_of text (before None ts i d) (get_or ts i d),
  leads text ts i d h
      ∙ ap (λ (k : kind.Kind). tok (kind_of k) (info_of text (before None ts i d) (get_or ts i d))
      ∷ drop (i + 1) (toks text ts)) e,
)

not_same : (a b : kind.Kind) → (b ≡ a → ⊥) → Off (same_kind (kind_of a) (kind_of b))
not_same a b h = of (same_kind (kind_of a) (kind_of b)) refl
  where
    of : (x : Bool) → same_kind (kind_of a) (kind_of b) ≡ x → Off x
    of true e = absurd (h (sym (kinds_differ a b (same_is (kind_of a) (kind_of b) e))))
    of false e = tt

pub not_leads : (text : List ℕ) (ts : List Token) (i : ℕ) (d : Token) (k : kind.Kind)
    → i < length ts → ((get_or ts i d).kind ≡ k → ⊥) → Not (kind_of k) (drop i (toks text ts))
not_leads text ts i d k h e =
    subst (Not (kind_of k)) (sym (leads text ts i d h)) (not_same k (get_or ts i d).kind e)

pub not_at_end : (text : List ℕ) (ts : List Token) (i : ℕ) (k : Kind) → length ts ≤ i
    → Not k (drop i (toks text ts))
not_at_end text ts i k h = subst (Not k) (sym (none_left text ts i h)) tt

-- ---- the first letter and the number before
pub scales_at : (text : List ℕ) (ts : List Token) (i : ℕ) → i < length ts
    → scales_here (drop i (toks text ts))
    ≡ is_behind (before None ts i nothing) (get_or ts i nothing) && begins_with_s
    (bytes_of text (get_or ts i nothing))
scales_at text ts i h = ap scales_here (leads text ts i nothing h)

-- ---- the test of a kind
pub leads_true : (k : Kind) (w v : List Tok) → Leads k w v → true ≡ leads_with k w
leads_true k w v (i, e) = subst (λ (w : List Tok). true ≡ leads_with k w) (sym e) (same_self k)
  where
    same_self : (k : Kind) → true ≡ same_kind k k
    same_self k = grind (arith, nat_tests)

pub leads_false : (k : Kind) (w : List Tok) → Not k w → false ≡ leads_with k w
leads_false k [] n = refl
leads_false k (tok h i ∷ r) n = of (same_kind k h) n
  where
    of : (b : Bool) → Off b → false ≡ b
    of true n = absurd n
    of false n = refl

-- ---- a number before
pub scales_first : (text : List ℕ) (ts : List Token) (i : ℕ) → i ≡ 0 → i < length ts
    → false ≡ scales_here (drop i (toks text ts))
scales_first text ts i e h =
    sym (subst (λ (i : ℕ). i < length ts → scales_here (drop i (toks text ts)) ≡ false) (sym e)
    (λ h. scales_at text ts 0 h) h)

scales_next : (text : List ℕ) (ts : List Token) (j : ℕ) → suc j < length ts
    → ((leads_with number (drop j (toks text ts)) &&
    ((get_or ts j nothing).upto == (get_or ts (suc j) nothing).from)) && begins_with_s
    (bytes_of text (get_or ts (suc j) nothing))) ≡ scales_here (drop (suc j) (toks text ts))
scales_next text ts j h =
    sym (scales_at text ts (suc j) h
    ∙ ap (λ (b : Bool). (b && ((get_or ts j nothing).upto == (get_or ts (suc j) nothing).from))
    && begins_with_s (bytes_of text (get_or ts (suc j) nothing)))
    (sym (ap (leads_with number) (leads text ts j nothing (omega arith)))))

pub scales_behind : (text : List ℕ) (ts : List Token) (i : ℕ) (a b : Bool) → (i ≡ 0 → ⊥)
    → i < length ts → a ≡ leads_with number (drop (i - 1) (toks text ts))
    → b ≡ begins_with_s (bytes_of text (get_or ts i nothing))
    → ((a && ((get_or ts (i - 1) nothing).upto == (get_or ts i nothing).from)) && b)
    ≡ scales_here (drop i (toks text ts))
scales_behind text ts i a b n h e f =
    let j = i - 1 in
    let q : suc j ≡ i = omega arith in
    subst (λ (i : ℕ). i < length ts → b ≡ begins_with_s (bytes_of text (get_or ts i nothing))
    → ((a && ((get_or ts j nothing).upto == (get_or ts i nothing).from)) && b)
    ≡ scales_here (drop i (toks text ts))) q
    (λ h f. subst
    (λ (a : Bool).
    ((a && ((get_or ts j nothing).upto == (get_or ts (suc j) nothing).from)) && b)
    ≡ scales_here (drop (suc j) (toks text ts))) (sym e)
    (subst (λ (b : Bool).
    ((leads_with number (drop j (toks text ts)) &&
    ((get_or ts j nothing).upto == (get_or ts (suc j) nothing).from)) && b)
    ≡ scales_here (drop (suc j) (toks text ts))) (sym f) (scales_next text ts j h))) h f

-- ---- the bytes and the place of a token
pub info_here : (text : List ℕ) (ts : List Token) (at : ℕ) (k : Kind) (i : Info) (v : List Tok)
    → at < length ts → drop at (toks text ts) ≡ tok k i ∷ v
    → info_of text (before None ts at nothing) (get_or ts at nothing) ≡ i
info_here text ts at k i v h e = let f = leads text ts at nothing h in cc

-- ---- numbers
short_at : (text : List ℕ) (ts : List Token) (i : ℕ) → i < length ts → are_short text ts ≡ true
    → is_short_token text (get_or ts i nothing) ≡ true
short_at text [] i h e = absurd (omega arith)
short_at text (t ∷ ts) zero h e = (and_parts (is_short_token text t) (are_short text ts) e).0
short_at text (t ∷ ts) (suc i) h e =
    short_at text ts i (omega arith) (and_parts (is_short_token text t) (are_short text ts) e).1

pub short_here : (text : List ℕ) (ts : List Token) (at : ℕ) (i : Info) (v : List Tok)
    → are_short text ts ≡ true → at < length ts → drop at (toks text ts) ≡ tok number i ∷ v
    → (count_by is_ascii_digit (bytes_of text (get_or ts at nothing)) ≤ 18)
    × (decimals (bytes_of text (get_or ts at nothing)) ≤ 20)
short_here text ts at i v e h f =
    let g = leads text ts at nothing h in
    let t = get_or ts at nothing in
    let q : kind_of t.kind ≡ number = cc in
    let b = bytes_of text t in
    let s = (and_parts (cond (same_kind number (kind_of t.kind)) (is_short b) true)
    (cond (same_kind hex (kind_of t.kind)) (nat_le (length b) 4) true)
    (short_at text ts at h e)).0 in
    let r = subst (λ (k : Kind). cond (same_kind number k) (is_short b) true ≡ true) q s in
    let p = and_parts (nat_le (count_by is_ascii_digit b) 18) (nat_le (decimals b) 9) r in
    let l = leb-true (decimals b) 9 p.1 in
    (leb-true (count_by is_ascii_digit b) 18 p.0, omega (arith, l))

pub hex_here : (text : List ℕ) (ts : List Token) (at : ℕ) (i : Info) (v : List Tok)
    → are_short text ts ≡ true → at < length ts → drop at (toks text ts) ≡ tok hex i ∷ v
    → length (bytes_of text (get_or ts at nothing)) ≤ 4
hex_here text ts at i v e h f =
    let g = leads text ts at nothing h in
    let t = get_or ts at nothing in
    let q : kind_of t.kind ≡ hex = cc in
    let b = bytes_of text t in
    let s = (and_parts (cond (same_kind number (kind_of t.kind)) (is_short b) true)
    (cond (same_kind hex (kind_of t.kind)) (nat_le (length b) 4) true)
    (short_at text ts at h e)).1 in
    leb-true (length b) 4
    (subst (λ (k : Kind). cond (same_kind hex k) (nat_le (length b) 4) true ≡ true) q s)

pub equal_bytes : (a b : List ℕ) → true ≡ bytes_eq a b → a ≡ b
equal_bytes a b e = grind (arith, bytes_eq-Decides a b)

-- ---- no keyword
pub no_word_end : (text : List ℕ) (ts : List Token) (i : ℕ) → length ts ≤ i
    → NoWord (drop i (toks text ts))
no_word_end text ts i h = subst NoWord (sym (none_left text ts i h)) tt

no_word : (k : kind.Kind) (i : Info) (r : List Tok)
    → ((w : keyword.Keyword) → k ≡ kinds.Keyword w → ⊥) → NoWord (tok (kind_of k) i ∷ r)
no_word kinds.Name i r n = tt
no_word (kinds.Keyword k) i r n = absurd (n k refl)
no_word kinds.Number i r n = tt
no_word kinds.Hex i r n = tt
no_word kinds.Explanation i r n = tt
no_word (kinds.Mark marks.Semicolon) i r n = tt
no_word (kinds.Mark marks.Colon) i r n = tt
no_word (kinds.Mark marks.Comma) i r n = tt
no_word (kinds.Mark marks.Equals) i r n = tt
no_word (kinds.Mark marks.LeftParen) i r n = tt
no_word (kinds.Mark marks.RightParen) i r n = tt
no_word (kinds.Mark marks.LeftBracket) i r n = tt
no_word (kinds.Mark marks.RightBracket) i r n = tt
no_word (kinds.Mark marks.Star) i r n = tt
no_word (kinds.Mark marks.Greater) i r n = tt
no_word (kinds.Mark marks.Period) i r n = tt
no_word (kinds.Mark marks.TwoPeriods) i r n = tt
no_word (kinds.Mark marks.Arrow) i r n = tt

pub no_word_at : (text : List ℕ) (ts : List Token) (i : ℕ) (d : Token) → i < length ts
    → ((w : keyword.Keyword) → (get_or ts i d).kind ≡ kinds.Keyword w → ⊥)
    → NoWord (drop i (toks text ts))
no_word_at text ts i d h n =
    subst NoWord (sym (leads text ts i d h))
    (no_word (get_or ts i d).kind (info_of text (before None ts i d) (get_or ts i d))
    (drop (i + 1) (toks text ts)) n)
