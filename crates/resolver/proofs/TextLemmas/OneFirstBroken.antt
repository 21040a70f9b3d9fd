-- A model that a text spells has one first broken rule at most.
use Rattle.std.proofs.Common.{◌≡◌, ℕ, inl, inr, true, false, cond, ◌==◌, List, [], ◌∷◌, refl, ap}
use Rattle.std.proofs.Common.{sym, ◌∙◌, subst, arith}
use Rattle.std.specs.Prelude.{Contains}
use Rattle.std.proofs.lemmas.Bool.Decides.{nat_tests}
use Rattle.ili_lexer.specs.declared.tokens.Token.{Token}
use Rattle.ili_lexer.specs.Tokens.{AreTokens}
use Rattle.ili_grammar.specs.Models.{Spells}
use Rattle.ili_grammar.specs.Numbers.{ident}
use Rattle.ili_grammar.specs.Slices.{toks}
use Rattle.ili_grammar.specs.Syntax.{Ident, ModelSyntax}
use Rattle.ili_grammar.specs.Tokens.{Kind, name, number, hex, explanation, word, semicolon, colon}
use Rattle.ili_grammar.specs.Tokens.{comma, equals, left_paren, right_paren, left_bracket}
use Rattle.ili_grammar.specs.Tokens.{right_bracket, star, greater, period, two_periods, arrow, Info}
use Rattle.ili_grammar.specs.Tokens.{Tok, tok}
use Rattle.resolver.specs.declared.faults.ModelCode.{ModelCode}
use Rattle.resolver.specs.declared.faults.ModelCode.TheVariants as code
use Rattle.resolver.specs.Breaking.{Breaks}
use Rattle.resolver.specs.Faults.{Fault, rank, is_before}
use Rattle.resolver.specs.First.{ComesBefore, IsFirstBroken}
use Rattle.resolver.proofs.TextLemmas.BrokenNames.{broken_in}
use Rattle.resolver.proofs.ListLemmas.Members.{In, contains}
use Rattle.resolver.proofs.TextLemmas.SpeltNames.{TokenNames, model_names}
use Rattle.resolver.proofs.TextLemmas.TokenPlaces.{HaveOwnPlaces, own_places}

-- ---- names are tokens
abbrev IsToken : List Tok → Ident → Type 0
IsToken ts n = (i : Info) × Contains ts (tok name i) × (n ≡ ident i)

one_more : (Q : Ident → Type 0) (k : Kind) (i : Info) (r : List Tok) → (k ≡ name → Q (ident i))
    → TokenNames Q r → TokenNames Q (tok k i ∷ r)
one_more Q name i r h s = (h refl, s)
one_more Q number i r h s = s
one_more Q hex i r h s = s
one_more Q explanation i r h s = s
one_more Q (word w) i r h s = s
one_more Q semicolon i r h s = s
one_more Q colon i r h s = s
one_more Q comma i r h s = s
one_more Q equals i r h s = s
one_more Q left_paren i r h s = s
one_more Q right_paren i r h s = s
one_more Q left_bracket i r h s = s
one_more Q right_bracket i r h s = s
one_more Q star i r h s = s
one_more Q greater i r h s = s
one_more Q period i r h s = s
one_more Q two_periods i r h s = s
one_more Q arrow i r h s = s

are_tokens : (whole ts : List Tok) → ((t : Tok) → In ts t → In whole t)
    → TokenNames (IsToken whole) ts
are_tokens whole [] h = tt
are_tokens whole (tok k i ∷ ts) h =
    one_more (IsToken whole) k i ts
    (λ e. (
      i,
      contains whole (tok name i)
          (subst (λ (x : Kind). In whole (tok x i)) e (h (tok k i) (inl refl))),
      refl,
    ))
    (are_tokens whole ts (λ t m. h t (inr m)))

broken_token : (m : ModelSyntax) (ts : List Tok) (c : ModelCode) (n : Ident) → Spells m ts
    → (Breaks m c n) → IsToken ts n
broken_token m ts c n s b =
    broken_in (IsToken ts) m (model_names (IsToken ts) 32 m ts [] s (are_tokens ts ts (λ t k. k))) c
    n b

-- ---- of two faults none comes before the other
tells : (f g : Fault) → is_before f g ≡ true → ComesBefore f g
tells f g e = grind (arith, nat_tests, e)

not_before : (f g : Fault) → (ComesBefore f g → ⊥) → is_before f g ≡ false
not_before f g h =
    elim (is_before f g) as (λ b. is_before f g ≡ b
    → is_before f g ≡ false) [ true ↦ λ e. absurd (h (tells f g e)) | false ↦ λ e. e ] refl

same_place : (f g : Fault) → is_before f g ≡ false → is_before g f ≡ false
    → (f.name.line ≡ g.name.line) × (f.name.column ≡ g.name.column) × (rank f.code ≡ rank g.code)
same_place f g e h = (line, column, by_rank)
  where
    line : f.name.line ≡ g.name.line
    line = grind (arith, nat_tests, e, h)

    column : f.name.column ≡ g.name.column
    column = grind (arith, nat_tests, e, h)

    by_rank : rank f.code ≡ rank g.code
    by_rank = grind (arith, nat_tests, e, h)

-- each code has a rank of its own
abbrev code_of : ℕ → ModelCode
code_of n =
    cond (n == 0) code.Unknown
    (cond (n == 1) code.NotTable
    (cond (n == 2) code.Twice (cond (n == 3) code.Cycle (cond (n == 4) code.Bounds
    (cond (n == 5) code.Decimals
    (cond (n == 6) code.NotCoord
    (cond (n == 7) code.Wide (cond (n == 8) code.LineAttr code.IdentUnknown))))))))

code_back : (c : ModelCode) → code_of (rank c) ≡ c
code_back code.Unknown = refl
code_back code.NotTable = refl
code_back code.Twice = refl
code_back code.Cycle = refl
code_back code.Bounds = refl
code_back code.Decimals = refl
code_back code.NotCoord = refl
code_back code.Wide = refl
code_back code.LineAttr = refl
code_back code.IdentUnknown = refl

one_first : (m : ModelSyntax) (ts : List Tok) (f g : Fault) → Spells m ts → HaveOwnPlaces ts
    → IsFirstBroken m f → IsFirstBroken m g → f ≡ g
one_first m ts f g s own h k =
    let place = same_place f g (not_before f g (k.first f h.broken))
    (not_before g f (h.first g k.broken)) in
    let a = broken_token m ts f.code f.name s h.broken in
    let b = broken_token m ts g.code g.name s k.broken in
    let line : a.0.line ≡ b.0.line = sym (ap (λ (n : Ident). n.line) a.2) ∙ place.0
    ∙ ap (λ (n : Ident). n.line) b.2 in
    let column : a.0.column ≡ b.0.column = sym (ap (λ (n : Ident). n.column) a.2) ∙ place.1
    ∙ ap (λ (n : Ident). n.column) b.2 in
    let text : f.name.text ≡ g.name.text = ap (λ (n : Ident). n.text) a.2
    ∙ own a.0 b.0 a.1 b.1 line column ∙ sym (ap (λ (n : Ident). n.text) b.2) in
    let named : f.name ≡ g.name = λ z. record {
      text = text z;
      line = place.0 z;
      column = place.1 z;
    } in
    let coded : f.code ≡ g.code = sym (code_back f.code) ∙ ap code_of place.2 ∙ code_back g.code in
    λ z. record { code = coded z; name = named z }

pub one_first_broken : (text : List ℕ) (ts : List Token) (m : ModelSyntax) (f g : Fault)
    → AreTokens text ts → Spells m (toks text ts) → IsFirstBroken m f → IsFirstBroken m g → f ≡ g
one_first_broken text ts m f g are s h k =
    one_first m (toks text ts) f g s (own_places text ts are) h k
