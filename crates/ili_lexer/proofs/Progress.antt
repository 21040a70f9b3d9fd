-- How far a text has been read.
use Rattle.std.proofs.Common.{◌≡◌, ℕ, ◌+◌, List, [], ◌∷◌, ◌++◌, drop, refl, sym, ap, ◌∙◌, subst}
use Rattle.std.proofs.Common.{append-nil}
use Rattle.ili_lexer.specs.declared.fronts.Front.TheVariants as front
use Rattle.ili_lexer.specs.declared.tokens.Kind.{Kind}
use Rattle.ili_lexer.specs.declared.tokens.Token.{Token}
use Rattle.ili_lexer.specs.declared.tokens.LexFault.{LexFault}
use Rattle.ili_lexer.specs.Fronts.{front_of}
use Rattle.ili_lexer.specs.Tokens.{Answer, tokens, fault, and_before, token_at, Gives, at_end}
use Rattle.ili_lexer.specs.Tokens.{passing, taking, at_bad_byte, at_open_explanation}
use Rattle.ili_lexer.specs.Tokens.{at_long_number, AreTokens}
use Rattle.ili_lexer.specs.Places.{StandsAt}
use Rattle.ili_lexer.specs.declared.tokens.LexFault.TheVariants as faults
use Rattle.ili_lexer.proofs.ByTable.{front_is}

-- an answer with tokens before it
abbrev pub and_all_before : List Token → Answer → Answer
and_all_before [] a = a
and_all_before (t ∷ ts) a = and_before t (and_all_before ts a)

-- the first i bytes hold these tokens: what the text gives is they, and then what the rest gives
abbrev pub HasRead : List ℕ → ℕ → List Token → Type 0
HasRead text i ts = (a : Answer) → Gives text i a → Gives text 0 (and_all_before ts a)

all_tokens : (ts us : List Token) → and_all_before ts (tokens us) ≡ tokens (ts ++ us)
all_tokens [] us = refl
all_tokens (t ∷ ts) us = ap (and_before t) (all_tokens ts us)

all_fault : (ts : List Token) → (f : LexFault) → and_all_before ts (fault f) ≡ fault f
all_fault [] f = refl
all_fault (t ∷ ts) f = ap (and_before t) (all_fault ts f)

one_more : (ts : List Token) (t : Token) (a : Answer)
    → and_all_before (ts ++ t ∷ []) a ≡ and_all_before ts (and_before t a)
one_more [] t a = refl
one_more (u ∷ ts) t a = ap (and_before u) (one_more ts t a)

pub nothing_read : (text : List ℕ) → HasRead text 0 []
nothing_read text a h = h

-- behind bytes between tokens
pub read_on : (text : List ℕ) (i n j : ℕ) (ts : List Token) → j ≡ i + n
    → front.Passed n ≡ front_of (drop i text) → HasRead text i ts → HasRead text j ts
read_on text i n j ts q e h =
    subst (λ (j : ℕ). HasRead text j ts) (sym q)
    (λ a g. h a (passing i n a (front_is (drop i text) (front.Passed n) (sym e)) g))

taken : (text : List ℕ) (i n : ℕ) (k : Kind) (ts : List Token)
    → front_of (drop i text) ≡ front.Token k n → HasRead text i ts
    → HasRead text (i + n) (ts ++ token_at text i k n ∷ [])
taken text i n k ts e h a g =
    subst (λ (x : Answer). Gives text 0 x) (sym (one_more ts (token_at text i k n) a))
    (h (and_before (token_at text i k n) a)
    (taking i n k a (and_before (token_at text i k n) a)
    (front_is (drop i text) (front.Token k n) e) g refl))

-- behind a token
pub read_token : (text : List ℕ) (i n j line column : ℕ) (k : Kind) (ts us : List Token)
    → StandsAt text i line column → j ≡ i + n → front.Token k n ≡ front_of (drop i text)
    → us ≡ ts ++ record { kind = k; line = line; column = column; from = i; upto = j } ∷ []
    → HasRead text i ts → HasRead text j us
read_token text i n j line column k ts us s q e p h =
    let same : us ≡ ts ++ token_at text i k n ∷ [] = p
    ∙ ap (λ (t : Token). ts ++ t ∷ []) (λ z. record {
      kind = k;
      line = s.on_line z;
      column = s.at_column z;
      from = i;
      upto = q z;
    }) in
    subst (λ (j : ℕ). HasRead text j us) (sym q)
    (subst (λ (us : List Token). HasRead text (i + n) us) (sym same)
    (taken text i n k ts (sym e) h))

-- at the end
pub read_all : (text : List ℕ) (i : ℕ) (ts : List Token) → front.End ≡ front_of (drop i text)
    → HasRead text i ts → AreTokens text ts
read_all text i ts e h =
    subst (λ (x : Answer). Gives text 0 x) (all_tokens ts [] ∙ ap tokens (append-nil ts))
    (h (tokens []) (at_end i (front_is (drop i text) front.End (sym e))))

-- at a fault
read_fault : (text : List ℕ) (i : ℕ) (ts : List Token) (f g : LexFault) → g ≡ f
    → Gives text i (fault f) → HasRead text i ts → Gives text 0 (fault g)
read_fault text i ts f g q e h =
    subst (λ (g : LexFault). Gives text 0 (fault g)) (sym q)
    (subst (λ (x : Answer). Gives text 0 x) (all_fault ts f) (h (fault f) e))

pub read_bad_byte : (text : List ℕ) (i line column : ℕ) (ts : List Token)
    → StandsAt text i line column → front.BadByte ≡ front_of (drop i text) → HasRead text i ts
    → Gives text 0 (fault (faults.BadByte line column))
read_bad_byte text i line column ts s e h =
    read_fault text i ts _ (faults.BadByte line column)
    (λ z. faults.BadByte (s.on_line z) (s.at_column z))
    (at_bad_byte i (front_is (drop i text) front.BadByte (sym e))) h

pub read_open_explanation : (text : List ℕ) (i line column : ℕ) (ts : List Token)
    → StandsAt text i line column → front.OpenExplanation ≡ front_of (drop i text)
    → HasRead text i ts → Gives text 0 (fault (faults.OpenExplanation line column))
read_open_explanation text i line column ts s e h =
    read_fault text i ts _ (faults.OpenExplanation line column)
    (λ z. faults.OpenExplanation (s.on_line z) (s.at_column z))
    (at_open_explanation i (front_is (drop i text) front.OpenExplanation (sym e))) h

pub read_long_number : (text : List ℕ) (i line column : ℕ) (ts : List Token)
    → StandsAt text i line column → front.LongNumber ≡ front_of (drop i text) → HasRead text i ts
    → Gives text 0 (fault (faults.LongNumber line column))
read_long_number text i line column ts s e h =
    let t = front_is (drop i text) front.LongNumber (sym e) in
    read_fault text i ts _ (faults.LongNumber line column)
    (λ z. faults.LongNumber (s.on_line z) (s.at_column z)) (at_long_number i t.0 t.1) h
