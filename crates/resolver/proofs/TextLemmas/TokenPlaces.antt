-- Of the tokens of a text those at one place have one text.
use Rattle.std.proofs.Common.{◌≡◌, ◌<◌, ◌≤◌, ◌+◌, ◌-◌, ◌⊎◌, inl, inr, ℕ, zero, suc, Bool, true}
use Rattle.std.proofs.Common.{false, cond, not, ◌==◌, nat_lt, List, [], ◌∷◌, length, take, drop}
use Rattle.std.proofs.Common.{get_or, Option, Some, None, refl, sym, ap, ◌∙◌, subst, arith}
use Rattle.std.proofs.Common.{take-suc}
use Rattle.std.specs.Prelude.{Contains}
use Rattle.std.specs.List.{suffix_len}
use Rattle.std.proofs.lemmas.Bool.Decides.{nat_tests}
use Rattle.std.proofs.lemmas.List.Sums.{sum_by-append, suffix_len-take_yes}
use Rattle.ili_lexer.specs.Bytes.{is_inside_line}
use Rattle.ili_lexer.specs.Longest.{IsTaken}
use Rattle.ili_lexer.specs.Places.{line_after, column_after}
use Rattle.ili_lexer.specs.Tokens.{Answer, tokens, fault, and_before, token_at, Gives, at_end}
use Rattle.ili_lexer.specs.Tokens.{passing, taking, at_bad_byte, at_open_explanation}
use Rattle.ili_lexer.specs.Tokens.{at_long_number, AreTokens}
use Rattle.ili_lexer.specs.declared.fronts.Front.TheVariants as front
use Rattle.ili_lexer.specs.declared.tokens.Kind.{Kind}
use Rattle.ili_lexer.specs.declared.tokens.Token.{Token}
use Rattle.ili_lexer.proofs.ByTable.{is_found}
use Rattle.ili_lexer.proofs.Orders.{lies_at}
use Rattle.ili_grammar.specs.Slices.{bytes_of, toks_behind, toks}
use Rattle.ili_grammar.specs.Tokens.{name, Info, Tok, tok}
use Rattle.resolver.proofs.TextLemmas.BrokenNames.{Each}
use Rattle.resolver.proofs.ListLemmas.Members.{In, in_contained}

-- of the tokens that are names those at one place have one text
abbrev pub HaveOwnPlaces : List Tok → Type 0
HaveOwnPlaces ts = (i j : Info) → Contains ts (tok name i) → Contains ts (tok name j)
    → i.line ≡ j.line → i.column ≡ j.column → i.text ≡ j.text

-- ---- the order of lines and columns
abbrev Before : ℕ → ℕ → ℕ → ℕ → Type 0
Before l c m d = (l < m) ⊎ ((l ≡ m) × (c < d))

joined : (l c m d n e : ℕ) → Before l c m d → Before m d n e → Before l c n e
joined l c m d n e (inl a) (inl b) = inl (omega (arith, a, b))
joined l c m d n e (inl a) (inr b) = inl (omega (arith, a, b.0))
joined l c m d n e (inr a) (inl b) = inl (omega (arith, a.0, b))
joined l c m d n e (inr a) (inr b) = inr (omega (arith, a.0, b.0), omega (arith, a.1, b.1))

apart : (l c m d : ℕ) → Before l c m d → l ≡ m → c ≡ d → ⊥
apart l c m d (inl a) e f = omega (arith, a, e)
apart l c m d (inr a) e f = omega (arith, a.1, f)

module _ (text : List ℕ) where
  line : ℕ → ℕ
  line i = line_after (take i text)

  column : ℕ → ℕ
  column i = column_after (take i text)

  abbrev ByteBefore : ℕ → ℕ → Type 0
  ByteBefore i j = Before (line i) (column i) (line j) (column j)

  -- one byte further
  counted : (i : ℕ) (b : Bool) → i < length text → (get_or text i 0 == 10) ≡ b
      → line (suc i) ≡ line i + cond b 1 0
  unfolding line
  counted i b lt e =
      let more = ap line_after (take-suc text i 0 lt) in
      let both = sum_by-append (λ (n : ℕ). cond (n == 10) 1 0) (take i text)
      (get_or text i 0 ∷ []) in
      let one = ap {B = ℕ} (λ (c : Bool). cond c 1 0) e in
      omega (arith, more, both, one)

  inside : (i : ℕ) → i < length text → (get_or text i 0 == 10) ≡ false
      → column (suc i) ≡ suc (column i)
  unfolding column
  inside i lt e =
      let back : suc i - 1 ≡ i = omega arith in
      let more = suffix_len-take_yes is_inside_line text (suc i) 0 (omega arith) (omega (arith, lt))
      (ap (λ (n : ℕ). is_inside_line (get_or text n 0)) back ∙ ap not e) in
      let same = ap (λ (n : ℕ). suffix_len is_inside_line (take n text)) back in
      omega (arith, more, same)

  further : (i : ℕ) → i < length text → ByteBefore i (suc i)
  further i lt = by_byte (get_or text i 0 == 10) refl
    where
      by_byte : (b : Bool) → (get_or text i 0 == 10) ≡ b → ByteBefore i (suc i)
      by_byte true e = let c = counted i true lt e in inl (omega (arith, c))
      by_byte false e =
          let c = counted i false lt e in
          let d = inside i lt e in inr (omega (arith, c), omega (arith, d))

  later : (i k : ℕ) → i + suc k ≤ length text → ByteBefore i (i + suc k)
  later i zero lt =
      let same : suc i ≡ i + 1 = omega arith in
      subst (ByteBefore i) same (further i (omega (arith, lt)))
  later i (suc k) lt =
      let same : suc (i + suc k) ≡ i + suc (suc k) = omega arith in
      subst (ByteBefore i) same
      (joined (line i) (column i) (line (i + suc k)) (column (i + suc k))
      (line (suc (i + suc k))) (column (suc (i + suc k))) (later i k (omega (arith, lt)))
      (further (i + suc k) (omega (arith, lt))))

  not_after : (i j : ℕ) → i < j → j ≤ length text → line i ≡ line j → column i ≡ column j → ⊥
  not_after i j lt le e f =
      let same : i + suc (j - suc i) ≡ j = omega (arith, lt) in
      apart (line i) (column i) (line j) (column j)
      (subst (ByteBefore i) same (later i (j - suc i) (omega (arith, same, le)))) e f

  one_place : (i j : ℕ) → i ≤ length text → j ≤ length text → line i ≡ line j → column i ≡ column j
      → i ≡ j
  one_place i j h k e f = by_order (nat_lt i j) refl (nat_lt j i) refl
    where
      by_order : (a : Bool) → nat_lt i j ≡ a → (b : Bool) → nat_lt j i ≡ b → i ≡ j
      by_order true p b q =
          let lt : i < j = grind (arith, nat_tests, p) in absurd (not_after i j lt k e f)
      by_order false p true q =
          let lt : j < i = grind (arith, nat_tests, q) in
          absurd (not_after j i lt h (sym e) (sym f))
      by_order false p false q = grind (arith, nat_tests, p, q)

  -- ---- the tokens
  record IsTokenAt (t : Token) : Type 0 where
    offset : ℕ
    size : ℕ
    kind : Kind
    within : offset ≤ length text
    taken : IsTaken (drop offset text) kind size
    is : t ≡ token_at text offset kind size

  abbrev AllAt : Answer → Type 0
  AllAt (tokens ts) = Each IsTokenAt ts
  AllAt (fault f) = Unit {0}

  one_before : (t : Token) (a : Answer) → IsTokenAt t → AllAt a → AllAt (and_before t a)
  one_before t (tokens ts) h k = (h, k)
  one_before t (fault f) h k = tt

  all_at : (i : ℕ) (a : Answer) → Gives text i a → AllAt a
  all_at _ _ (at_end i e) = tt
  all_at _ _ (passing i n a e g) = all_at (i + n) a g
  all_at _ _ (taking i n k a b e g q) =
      let p = lies_at text i (front.Token k n) (sym (is_found (drop i text) (front.Token k n) e)) in
      subst AllAt (sym q)
      (one_before (token_at text i k n) a (record {
        offset = i;
        size = n;
        kind = k;
        within = omega (arith, p.1);
        taken = e;
        is = refl;
      }) (all_at (i + n) a g))
  all_at _ _ (at_bad_byte i e) = tt
  all_at _ _ (at_open_explanation i e) = tt
  all_at _ _ (at_long_number i n e) = tt

  -- the bytes of a token by its offset and its size
  bytes : (t : Token) (h : IsTokenAt t) → bytes_of text t ≡ take h.size (drop h.offset text)
  bytes t h =
      let size : h.offset + h.size - h.offset ≡ h.size = omega arith in
      ap (bytes_of text) h.is ∙ ap (λ (n : ℕ). take n (drop h.offset text)) size

  one_text : (t u : Token) → IsTokenAt t → IsTokenAt u → t.line ≡ u.line → t.column ≡ u.column
      → bytes_of text t ≡ bytes_of text u
  unfolding line column
  one_text t u h k e f =
      let on_line : line h.offset ≡ line k.offset = sym (ap (λ (x : Token). x.line) h.is) ∙ e
      ∙ ap (λ (x : Token). x.line) k.is in
      let at_column : column h.offset ≡ column k.offset = sym (ap (λ (x : Token). x.column) h.is)
      ∙ f ∙ ap (λ (x : Token). x.column) k.is in
      let same : h.offset ≡ k.offset = one_place h.offset k.offset h.within k.within on_line
      at_column in
      let other : IsTaken (drop h.offset text) k.kind k.size = subst
      (λ (i : ℕ). IsTaken (drop i text) k.kind k.size) (sym same) k.taken in
      let size : h.size ≡ k.size = omega (
        arith,
        h.taken.longest.longest k.kind k.size other.longest.stands,
        other.longest.longest h.kind h.size h.taken.longest.stands,
      ) in
      bytes t h ∙ ap (λ (n : ℕ). take n (drop h.offset text)) size
      ∙ ap (λ (i : ℕ). take k.size (drop i text)) same ∙ sym (bytes u k)

  -- ---- as the grammar reads them
  record IsInfoAt (i : Info) : Type 0 where
    token : Token
    at : IsTokenAt token
    line_is : i.line ≡ token.line
    column_is : i.column ≡ token.column
    text_is : i.text ≡ bytes_of text token

  abbrev info : Tok → Info
  info (tok k i) = i

  found : (p : Option Token) (ts : List Token) (x : Tok) → Each IsTokenAt ts
      → In (toks_behind text p ts) x → IsInfoAt (info x)
  found p [] x h k = absurd k
  found p (t ∷ ts) x h (inl e) =
      subst (λ (y : Tok). IsInfoAt (info y)) e (record {
        token = t;
        at = h.0;
        line_is = refl;
        column_is = refl;
        text_is = refl;
      })
  found p (t ∷ ts) x h (inr k) = found (Some t) ts x h.1 k

  pub own_places : (ts : List Token) → AreTokens text ts → HaveOwnPlaces (toks text ts)
  unfolding toks
  own_places ts g i j a b e f =
      let all : Each IsTokenAt ts = all_at 0 (tokens ts) g in
      let h : IsInfoAt i = found None ts (tok name i) all
      (in_contained (toks_behind text None ts) (tok name i) a) in
      let k : IsInfoAt j = found None ts (tok name j) all
      (in_contained (toks_behind text None ts) (tok name j) b) in
      h.text_is ∙ one_text h.token k.token h.at k.at (sym h.line_is ∙ e ∙ k.line_is)
      (sym h.column_is ∙ f ∙ k.column_is) ∙ sym k.text_is
