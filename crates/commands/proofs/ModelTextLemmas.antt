-- What the text of a model is, it is alone: a model with one layout, or refused for one reason.
use Rattle.std.proofs.Common.{◌≡◌, ◌<◌, ℕ, length, arith, List, Option, Some, None, sym, ap, ◌∙◌}
use Rattle.std.proofs.Common.{subst}
use Rattle.std.specs.Prelude.{slice_get}
use Rattle.ili_lexer.specs.declared.tokens.Token.{Token}
use Rattle.ili_lexer.specs.declared.tokens.LexFault.{LexFault}
use Rattle.ili_lexer.specs.declared.tokens.LexFault.TheVariants as lexed
use Rattle.ili_lexer.specs.Tokens.{tokens, fault, Gives, AreTokens, IsFault}
use Rattle.ili_lexer.proofs.Once.{one_answer}
use Rattle.ili_grammar.specs.Faults.{IsFirstFault}
use Rattle.ili_grammar.specs.Models.{Spells}
use Rattle.ili_grammar.specs.Slices.{toks}
use Rattle.ili_grammar.specs.Syntax.{ModelSyntax}
use Rattle.ili_grammar.specs.declared.syntax.SyntaxCode.{SyntaxCode}
use Rattle.ili_grammar.specs.declared.syntax.SyntaxFault.{SyntaxFault}
use Rattle.ili_grammar.specs.declared.syntax.SyntaxFault.TheVariants as parsed
use Rattle.ili_grammar.proofs.Leads.{length-toks}
use Rattle.ili_grammar.proofs.ModelsOnce.{spelt_once}
use Rattle.ili_grammar.proofs.FirstFault.{same_fault as same_first_fault, no_model}
use Rattle.ili_grammar.specs.Values.{model_of}
use Rattle.ili_grammar.specs.declared.syntax.ModelSyntax as syntax
use Rattle.commands.specs.declared.refusals.Refusal as stored
use Rattle.commands.specs.declared.model.Reading.{Reading}
use Rattle.commands.specs.declared.model.Reading.TheVariants as readings
use Rattle.commands.specs.declared.model.ModelReading.{ModelReading}
use Rattle.commands.specs.declared.model.ModelReading.TheVariants as models
use Rattle.commands.specs.RefusalViews.{refusal_of, IsReading, IsLaidOut, IsModelReading}
use Rattle.resolver.specs.First.{IsFirstBroken}
use Rattle.resolver.specs.Resolved.{ResolvedModel}
use Rattle.resolver.specs.Standing.{IsModel}
use Rattle.resolver.proofs.TextLemmas.OneFirstBroken.{one_first_broken}
use Rattle.resolver.proofs.TextLemmas.OneModel.{one_model}
use Rattle.table_layout.specs.Layouts.{Layout}
use Rattle.table_layout.specs.Tables.{layout_of}
use Rattle.commands.specs.ModelTexts.{Refusal, lex_refusal, end_refusal, token_refusal}
use Rattle.commands.specs.ModelTexts.{name_refusal, IsSpelt, IsFaulty, no_token, ends_early}
use Rattle.commands.specs.ModelTexts.{wrong_token, IsRefused, at_fault, misnamed, HasLayout}

-- a text is cut in one way
same_tokens : (text : List ℕ) (a b : List Token) → AreTokens text a → AreTokens text b → a ≡ b
same_tokens text a b h k = let e = one_answer text 0 (tokens a) (tokens b) h k in cc

-- a fault of the tokens that a refusal names
given_fault : (text : List ℕ) (f : LexFault) (r : Refusal) → IsFault text f → lex_refusal f ≡ Some r
    → Gives text 0 (fault f)
given_fault text (lexed.BadByte l c) r h e = h
given_fault text (lexed.OpenExplanation l c) r h e = h
given_fault text (lexed.LongNumber l c) r h e = h
given_fault text lexed.Memory r h e = absurd (cc)

no_tokens : (text : List ℕ) (f : LexFault) (r : Refusal) (ts : List Token) → IsFault text f
    → lex_refusal f ≡ Some r → AreTokens text ts → ⊥
no_tokens text f r ts h e k =
    let q = one_answer text 0 (fault f) (tokens ts) (given_fault text f r h e) k in cc

module _ (text : List ℕ) where
  same_syntax : (m n : ModelSyntax) → IsSpelt text m → IsSpelt text n → m ≡ n
  same_syntax m n h k =
      spelt_once m n (toks text k.tokens)
      (subst (λ (ts : List Token). Spells m (toks text ts))
      (same_tokens text h.tokens k.tokens h.are k.are) h.spelt) k.spelt

  at_same : (ts us : List Token) (f : SyntaxFault) → AreTokens text ts → AreTokens text us
      → IsFirstFault (toks text ts) f → IsFirstFault (toks text us) f
  at_same ts us f h k =
      subst (λ (vs : List Token). IsFirstFault (toks text vs) f) (same_tokens text ts us h k)

  same_fault : (ts us : List Token) (c d : SyntaxCode) (i j : Option ℕ) → AreTokens text ts
      → AreTokens text us → IsFirstFault (toks text ts) (parsed.At c i)
      → IsFirstFault (toks text us) (parsed.At d j) → parsed.At c i ≡ parsed.At d j
  same_fault ts us c d i j h k x y =
      same_first_fault (toks text us) (parsed.At c i) (parsed.At d j) (λ e. cc) (λ e. cc)
      (at_same ts us (parsed.At c i) h k x) y

  -- a text that spells a syntax has no fault
  not_faulty : (m : ModelSyntax) (r : Refusal) → IsSpelt text m → IsFaulty text r → ⊥
  not_faulty m r s (no_token f h e) = no_tokens text f r s.tokens h e s.are
  not_faulty m r s (ends_early ts c a h e) =
      let q = no_model (toks text s.tokens) (parsed.At c None) m
      (at_same ts s.tokens (parsed.At c None) a s.are h) s.spelt in
      cc
  not_faulty m r s (wrong_token ts c k t a h g e) =
      let q = no_model (toks text s.tokens) (parsed.At c (Some k)) m
      (at_same ts s.tokens (parsed.At c (Some k)) a s.are h) s.spelt in
      cc

  one_faulty : (q r : Refusal) → IsFaulty text q → IsFaulty text r → q ≡ r
  one_faulty q r (no_token f h e) (no_token g k d) =
      let o = one_answer text 0 (fault f) (fault g) (given_fault text f q h e)
      (given_fault text g r k d) in
      let same : f ≡ g = cc in
      let w = ap lex_refusal same in cc
  one_faulty q r (no_token f h e) (ends_early us d b k g) = absurd (no_tokens text f q us h e b)
  one_faulty q r (no_token f h e) (wrong_token us d j t b k l g) =
      absurd (no_tokens text f q us h e b)
  one_faulty q r (ends_early ts c a h e) (no_token g k d) = absurd (no_tokens text g r ts k d a)
  one_faulty q r (ends_early ts c a h e) (ends_early us d b k g) =
      let o = same_fault ts us c d None None a b h k in
      let same : c ≡ d = cc in
      e ∙ ap (end_refusal text) same ∙ sym g
  one_faulty q r (ends_early ts c a h e) (wrong_token us d j t b k l g) =
      let o = same_fault ts us c d None (Some j) a b h k in absurd (cc)
  one_faulty q r (wrong_token ts c i t a h l e) (no_token g k d) =
      absurd (no_tokens text g r ts k d a)
  one_faulty q r (wrong_token ts c i t a h l e) (ends_early us d b k g) =
      let o = same_fault ts us c d (Some i) None a b h k in absurd (cc)
  one_faulty q r (wrong_token ts c i t a h l e) (wrong_token us d j u b k m g) =
      let o = same_fault ts us c d (Some i) (Some j) a b h k in
      let codes : c ≡ d = cc in
      let places : i ≡ j = cc in
      let lists = same_tokens text ts us a b in
      let same : t ≡ u = cc in
      e ∙ ap (λ (x : SyntaxCode). token_refusal text x t) codes ∙ ap (token_refusal text d) same
      ∙ sym g

  -- what the reader of the syntax says of the tokens that it was given
  module _ (ts us : List Token) (f : SyntaxFault) (c : SyntaxCode) (k : Option ℕ)
      (are : AreTokens text ts) (same : us ≡ ts) (h : IsFirstFault (toks text us) f)
      (is : f ≡ parsed.At c k) where
    fault_there : (j : Option ℕ) → k ≡ j → IsFirstFault (toks text ts) (parsed.At c j)
    fault_there j e =
        subst (λ (i : Option ℕ). IsFirstFault (toks text ts) (parsed.At c i)) e
        (subst (IsFirstFault (toks text ts)) is
        (subst (λ (vs : List Token). IsFirstFault (toks text vs) f) same h))

    pub end_faulty : (r : Refusal) → k ≡ None → r ≡ end_refusal text c → IsFaulty text r
    end_faulty r e g = ends_early ts c are (fault_there None e) g

    pub token_there : (j : ℕ) → k ≡ Some j → j < length ts
    token_there j e = omega (arith, (fault_there (Some j) e).0, length-toks text ts)

    pub token_faulty : (j : ℕ) (t : Token) (r : Refusal) → k ≡ Some j → slice_get ts j ≡ Some t
        → r ≡ token_refusal text c t → IsFaulty text r
    token_faulty j t r e l g = wrong_token ts c j t are (fault_there (Some j) e) l g

  pub one_layout : (a b : Layout) → HasLayout text a → HasLayout text b → a ≡ b
  one_layout a b h k =
      let same : k.syntax ≡ h.syntax = same_syntax k.syntax h.syntax k.spelt h.spelt in
      let model : h.model ≡ k.model = one_model h.syntax h.model k.model h.stands
      (subst (λ (m : ModelSyntax). IsModel m k.model) same k.stands) in
      h.laid_out ∙ ap (λ (m : ResolvedModel). layout_of m) model ∙ sym k.laid_out

  pub not_refused : (l : Layout) (r : Refusal) → HasLayout text l → IsRefused text r → ⊥
  not_refused l r h (at_fault f) = not_faulty h.syntax r h.spelt f
  not_refused l r h (misnamed n f s e g) =
      let broken : IsFirstBroken h.syntax f = subst (λ (m : ModelSyntax). IsFirstBroken m f)
      (same_syntax n h.syntax s h.spelt) e in
      h.faultless f broken.broken

  pub one_refusal : (q r : Refusal) → IsRefused text q → IsRefused text r → q ≡ r
  one_refusal q r (at_fault f) (at_fault g) = one_faulty q r f g
  one_refusal q r (at_fault f) (misnamed n g s e d) = absurd (not_faulty n q s f)
  one_refusal q r (misnamed m f s e d) (at_fault g) = absurd (not_faulty m r s g)
  one_refusal q r (misnamed m f s e d) (misnamed n g u h k) =
      let first : IsFirstBroken m g = subst (λ (x : ModelSyntax). IsFirstBroken x g)
      (same_syntax n m u s) h in
      let same : f ≡ g = one_first_broken text s.tokens m f g s.are s.spelt e first in
      d ∙ ap name_refusal same ∙ sym k

-- ---- what the reader of a text gave
pub faulty_of : (a : List ℕ) (x : Reading) (r : stored.Refusal) → IsReading a x
    → x ≡ readings.Refused r → IsRefused a (refusal_of r)
faulty_of a x r h f = at_fault (subst (IsReading a) f h)

pub spelt_of : (a : List ℕ) (x : Reading) (s : syntax.ModelSyntax) → IsReading a x
    → x ≡ readings.Syntax s → IsSpelt a (model_of s)
spelt_of a x s h f = subst (IsReading a) f h

-- the layout of a syntax that the text spells, or its refusal
pub read_as : (a : List ℕ) (m : ModelSyntax) (x : ModelReading) → IsSpelt a m → IsLaidOut m x
    → IsModelReading a x
read_as a m (models.Laid layout) s h =
    record { syntax = m; spelt = s; model = h.0; faultless = h.1; stands = h.2; laid_out = h.3 }
read_as a m (models.Refused r) s h = misnamed m h.0 s h.1 h.2
