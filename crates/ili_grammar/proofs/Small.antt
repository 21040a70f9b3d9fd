-- The numbers of a model are small where those of its tokens are.
use Rattle.std.proofs.Common.{◌≡◌, ℕ, ◌^◌, ◌<◌, ◌≤◌, nat_abs, count_by, length, List, [], ◌∷◌, All}
use Rattle.std.proofs.Common.{Option, Some, None, IfSome, Bool, true, false, cond, nat_le, refl}
use Rattle.std.proofs.Common.{subst, ◌||◌, drop, arith}
use Rattle.std.proofs.lemmas.Bool.{and_parts, leb-true}
use Rattle.std.proofs.lemmas.List.Elements.{All-nil, All-cons, All-append}
use Rattle.ili_grammar.specs.Tokens.{name, number, semicolon, comma, right_paren, period, word}
use Rattle.ili_grammar.specs.Tokens.{VERTEX, END, Info, Tok, tok}
use Rattle.ili_grammar.specs.Syntax.{Ident, Decimal, Element, Elements, LineHead, TypeSyntax}
use Rattle.ili_grammar.specs.Syntax.{Attributes, AttributeSyntax, Content, DomainSyntax}
use Rattle.ili_grammar.specs.Syntax.{TableSyntax, TopicSyntax, Codes, ModelSyntax}
use Rattle.ili_grammar.specs.Numbers.{decimal, between, in_range, has, read_from, read_hex}
use Rattle.ili_grammar.specs.Numbers.{is_short, signed, decimals}
use Rattle.ili_grammar.specs.Types.{IsList, one_name, more_names, IsLists, no_list, more_lists}
use Rattle.ili_grammar.specs.Types.{IsIdents, no_ident, idents, IsMaybeIdents, without_idents}
use Rattle.ili_grammar.specs.Types.{with_idents, IsForms, last_straights, last_arcs, straights}
use Rattle.ili_grammar.specs.Types.{arcs, IsBase, no_base, base, IsOverlap, no_overlap, overlap}
use Rattle.ili_grammar.specs.Types.{IsLine, line, IsEnumeration, enumeration, IsElements}
use Rattle.ili_grammar.specs.Types.{last_element, more_elements, IsElement, leaf, node, IsExplained}
use Rattle.ili_grammar.specs.Types.{unexplained, explained, IsType, named, coord2, coord3, dim1}
use Rattle.ili_grammar.specs.Types.{dim2, radians, grads, degrees, range, text, date, halignment}
use Rattle.ili_grammar.specs.Types.{valignment, of_elements, polyline, surface, area}
use Rattle.ili_grammar.specs.Types.{IsLineAttributes, no_line_attributes, line_attributes}
use Rattle.ili_grammar.specs.Types.{IsAttributes, no_attribute, more_attributes, IsAttribute}
use Rattle.ili_grammar.specs.Types.{mandatory, optional, IsContent, value, reference}
use Rattle.ili_grammar.specs.Models.{IsDomains, no_domain, more_domains, IsMaybeDomains}
use Rattle.ili_grammar.specs.Models.{without_domains, with_domains, IsTable, table, IsBody, no_part}
use Rattle.ili_grammar.specs.Models.{and_domains, and_table, and_optional_table, IsTopic, topic}
use Rattle.ili_grammar.specs.Models.{IsTopics, no_topic, and_topic, and_optional_topic, a_model}
use Rattle.ili_grammar.specs.Models.{IsValue, by_default, by_number, by_hex, continue, undefined}
use Rattle.ili_grammar.specs.Models.{IsCodes, codes, IsTransfer, transfer, Spells}
use Rattle.ili_lexer.specs.declared.tokens.Token.{Token}
use Rattle.ili_lexer.specs.declared.tokens.Kind as kind
use Rattle.ili_lexer.specs.declared.tokens.Kind.TheVariants as kinds
use Rattle.ili_lexer.specs.declared.tokens.Mark.TheVariants as marks
use Rattle.ili_lexer.specs.Tokens.{AreLongest}
use Rattle.std.specs.Char.{is_ascii_digit}
use Rattle.ili_grammar.specs.Kinds.{same_kind}
use Rattle.ili_grammar.specs.Slices.{kind_of, info_of, bytes_of, is_short_token, are_short}
use Rattle.ili_grammar.specs.Slices.{toks_behind, toks}
use Rattle.ili_grammar.proofs.Powers.{small_number}
use Rattle.ili_grammar.specs.Limits.{IsSmall, IsSmallType, AreSmallAttributes, IsSmallAttribute}
use Rattle.ili_grammar.specs.Limits.{IsSmallContent, IsSmallDomain, IsSmallTable, IsSmallTopic}
use Rattle.ili_grammar.specs.Limits.{AreNumbersSmall, AreCodes, IsWithinLimits}
use Rattle.ili_grammar.proofs.Leads.{length-toks}
use Rattle.ili_grammar.proofs.Names.{names_fit}
use Rattle.ili_grammar.proofs.Lexed.{short_tokens}
use Rattle.ili_grammar.proofs.NamesSpelled.{all_named, tokens_named}

-- the numbers of all tokens are small
pub record And (P Q : Type 0) : Type 0 where
  pub this : P
  pub rest : Q

abbrev pub Small : List Tok → Type 0
Small [] = Unit {0}
Small (tok number i ∷ r) = And (IsSmall (decimal i)) (Small r)
Small (tok _ i ∷ r) = Small r

both : {P Q : Type 0} → P → Q → And P Q
both p q = record { this = p; rest = q }

list_rest : (l : List Ident) (w r : List Tok) → IsList l w r → Small w → Small r
list_rest _ _ _ (one_name n r) s = s
list_rest _ _ _ (more_names n i l w r d) s = list_rest l w r d s

lists_rest : (ls : List (List Ident)) (w r : List Tok) → IsLists ls w r → Small w → Small r
lists_rest _ _ _ (no_list r) s = s
lists_rest _ _ _ (more_lists i l ls w u r d e) s =
    lists_rest ls u r e (list_rest l w (tok semicolon i ∷ u) d s)

idents_rest : (ls : List (List Ident)) (w r : List Tok) → IsIdents ls w r → Small w → Small r
idents_rest _ _ _ (no_ident i j r) s = s
idents_rest _ _ _ (idents i j l ls w u r d e) s =
    lists_rest ls u r e (list_rest l w (tok semicolon j ∷ u) d s)

maybe_idents_rest : (ls : List (List Ident)) (w r : List Tok) → IsMaybeIdents ls w r → Small w
    → Small r
maybe_idents_rest _ _ _ (without_idents r) s = s
maybe_idents_rest _ _ _ (with_idents ls w r d) s = idents_rest ls w r d s

forms_rest : (a b : Bool) (w r : List Tok) → IsForms a b w r → Small w → Small r
forms_rest _ _ _ _ (last_straights i j r) s = s
forms_rest _ _ _ _ (last_arcs i j r) s = s
forms_rest _ _ _ _ (straights i j a b w r d) s = forms_rest a b w r d s
forms_rest _ _ _ _ (arcs i j a b w r d) s = forms_rest a b w r d s

base_rest : (w r : List Tok) → IsBase w r → Small w → Small r
base_rest _ _ (no_base r) s = s
base_rest _ _ (base i j r) s = s

overlap_small : (o : Option Decimal) (w r : List Tok) → IsOverlap o w r → Small w
    → And (IfSome o IsSmall) (Small r)
overlap_small _ _ _ (no_overlap r) s = both tt s
overlap_small _ _ _ (overlap i j k n r) s = both s.this s.rest

line_small : (l : LineHead) (w r : List Tok) → IsLine l w r → Small w
    → And (IfSome l.overlap IsSmall) (Small r)
line_small _ _ _ (line i j k v a b o w u x r f g d) s =
    overlap_small o x r d
    (base_rest u x g (forms_rest a b w (tok (word VERTEX) k ∷ tok name v ∷ u) f s))

mutual
  enumeration_rest : (d : ℕ) (es : Elements) (w r : List Tok) → IsEnumeration d es w r → Small w
      → Small r
  enumeration_rest _ _ _ _ (enumeration d i es w r x) s = elements_rest d es w r x s

  elements_rest : (d : ℕ) (es : Elements) (w r : List Tok) → IsElements d es w r → Small w → Small r
  elements_rest _ _ _ _ (last_element d i e w r x) s =
      element_rest d e w (tok right_paren i ∷ r) x s
  elements_rest _ _ _ _ (more_elements d i e es w u r x y) s =
      elements_rest d es u r y (element_rest d e w (tok comma i ∷ u) x s)

  element_rest : (d : ℕ) (e : Element) (w r : List Tok) → IsElement d e w r → Small w → Small r
  element_rest _ _ _ _ (leaf d n r) s = s
  element_rest _ _ _ _ (node d n es w r x) s = enumeration_rest d es w r x s

explained_rest : (w r : List Tok) → IsExplained w r → Small w → Small r
explained_rest _ _ (unexplained r) s = s
explained_rest _ _ (explained i r) s = s

mutual
  type_small : (d : ℕ) (t : TypeSyntax) (w r : List Tok) → IsType d t w r → Small w
      → And (IsSmallType t) (Small r)
  type_small _ _ _ _ (named d n r) s = both tt s
  type_small _ _ _ _ (coord2 d t a b g h r) s =
      both ((s.this, s.rest.rest.this), (s.rest.this, s.rest.rest.rest.this)) s.rest.rest.rest.rest
  type_small _ _ _ _ (coord3 d t a b c g h j r) s =
      both (
        (s.this, s.rest.rest.rest.this),
        (s.rest.this, s.rest.rest.rest.rest.this),
        (s.rest.rest.this, s.rest.rest.rest.rest.rest.this),
      ) s.rest.rest.rest.rest.rest.rest
  type_small _ _ _ _ (dim1 d t a b r) s = both (s.this, s.rest.this) s.rest.rest
  type_small _ _ _ _ (dim2 d t a b r) s = both (s.this, s.rest.this) s.rest.rest
  type_small _ _ _ _ (radians d t a b r) s = both (s.this, s.rest.this) s.rest.rest
  type_small _ _ _ _ (grads d t a b r) s = both (s.this, s.rest.this) s.rest.rest
  type_small _ _ _ _ (degrees d t a b r) s = both (s.this, s.rest.this) s.rest.rest
  type_small _ _ _ _ (range d t a p b q r) s = both (s.this, s.rest.this) s.rest.rest
  type_small _ _ _ _ (text d t m a r) s = both s.this s.rest
  type_small _ _ _ _ (date d t r) s = both tt s
  type_small _ _ _ _ (halignment d t r) s = both tt s
  type_small _ _ _ _ (valignment d t r) s = both tt s
  type_small _ _ _ _ (of_elements d es w r x) s = both tt (enumeration_rest d es w r x s)
  type_small _ _ _ _ (polyline d t l w r x) s =
      let p = line_small l w r x s in both (p.this, tt) p.rest
  type_small _ _ _ _ (surface d t l as_ is w u r x y) s =
      let p = line_small l w u x s in
      let q = line_attributes_small d as_ is u r y p.rest in both (p.this, q.this) q.rest
  type_small _ _ _ _ (area d t l as_ is w u r x y) s =
      let p = line_small l w u x s in
      let q = line_attributes_small d as_ is u r y p.rest in both (p.this, q.this) q.rest

  line_attributes_small : (d : ℕ) (as_ : Attributes) (is : List (List Ident)) (w r : List Tok)
      → IsLineAttributes d as_ is w r → Small w → And (AreSmallAttributes as_) (Small r)
  line_attributes_small _ _ _ _ _ (no_line_attributes d r) s = both tt s
  line_attributes_small _ _ _ _ _ (line_attributes d i j k as_ is w u r x y) s =
      let p = attributes_small d as_ w u x s in
      both p.this (maybe_idents_rest is u (tok (word END) k ∷ r) y p.rest)

  attributes_small : (d : ℕ) (as_ : Attributes) (w r : List Tok) → IsAttributes d as_ w r → Small w
      → And (AreSmallAttributes as_) (Small r)
  attributes_small _ _ _ _ (no_attribute d r) s = both tt s
  attributes_small _ _ _ _ (more_attributes d a as_ w u r x y) s =
      let p = attribute_small d a w u x s in
      let q = attributes_small d as_ u r y p.rest in both (p.this, q.this) q.rest

  attribute_small : (d : ℕ) (a : AttributeSyntax) (w r : List Tok) → IsAttribute d a w r → Small w
      → And (IsSmallAttribute a) (Small r)
  attribute_small _ _ _ _ (mandatory d n i k c w u r x y) s =
      let p = content_small d c w u x s in
      both p.this (explained_rest u (tok semicolon k ∷ r) y p.rest)
  attribute_small _ _ _ _ (optional d n i j k c w u r x y) s =
      let p = content_small d c w u x s in
      both p.this (explained_rest u (tok semicolon k ∷ r) y p.rest)

  content_small : (d : ℕ) (c : Content) (w r : List Tok) → IsContent d c w r → Small w
      → And (IsSmallContent c) (Small r)
  content_small _ _ _ _ (value d t w r x) s = type_small d t w r x s
  content_small _ _ _ _ (reference d i n r) s = both tt s

-- ---- lists of domains, tables and topics
domains_small : (L : ℕ) (ds : List DomainSyntax) (w r : List Tok) → IsDomains L ds w r → Small w
    → And (All IsSmallDomain ds) (Small r)
domains_small L _ _ _ (no_domain r) s = both (All-nil IsSmallDomain) s
domains_small L _ _ _ (more_domains n i k t ds w u v r x y z) s =
    let p = type_small L t w u x s in
    let q = domains_small L ds v r z (explained_rest u (tok semicolon k ∷ v) y p.rest) in
    both (All-cons IsSmallDomain _ ds p.this q.this) q.rest

maybe_domains_small : (L : ℕ) (ds : List DomainSyntax) (w r : List Tok) → IsMaybeDomains L ds w r
    → Small w → And (All IsSmallDomain ds) (Small r)
maybe_domains_small L _ _ _ (without_domains r) s = both (All-nil IsSmallDomain) s
maybe_domains_small L _ _ _ (with_domains i ds w r x) s = domains_small L ds w r x s

table_small : (L : ℕ) (o : Bool) (t : TableSyntax) (w r : List Tok) → IsTable L o t w r → Small w
    → And (IsSmallTable t) (Small r)
table_small L o _ _ _ (table i n j k m p as_ is w u r x y e) s =
    let q = attributes_small L as_ w u x s in
    both q.this (idents_rest is u (tok (word END) k ∷ tok name m ∷ tok semicolon p ∷ r) y q.rest)

record SmallBody (ds : List DomainSyntax) (ts : List TableSyntax) (r : List Tok) : Type 0 where
  domains : All IsSmallDomain ds
  tables : All IsSmallTable ts
  rest : Small r

body_small : (L : ℕ) (ds : List DomainSyntax) (ts : List TableSyntax) (w r : List Tok)
    → IsBody L ds ts w r → Small w → SmallBody ds ts r
body_small L _ _ _ _ (no_part r) s =
    record { domains = All-nil IsSmallDomain; tables = All-nil IsSmallTable; rest = s }
body_small L _ _ _ _ (and_domains i ds es ts w u r x y) s =
    let p = domains_small L ds w u x s in
    let q = body_small L es ts u r y p.rest in
    record {
      domains = All-append IsSmallDomain ds es p.this q.domains;
      tables = q.tables;
      rest = q.rest;
    }
body_small L _ _ _ _ (and_table ds t ts w u r x y) s =
    let p = table_small L false t w u x s in
    let q = body_small L ds ts u r y p.rest in
    record {
      domains = q.domains;
      tables = All-cons IsSmallTable t ts p.this q.tables;
      rest = q.rest;
    }
body_small L _ _ _ _ (and_optional_table i ds t ts w u r x y) s =
    let p = table_small L true t w u x s in
    let q = body_small L ds ts u r y p.rest in
    record {
      domains = q.domains;
      tables = All-cons IsSmallTable t ts p.this q.tables;
      rest = q.rest;
    }

topic_small : (L : ℕ) (t : TopicSyntax) (w r : List Tok) → IsTopic L t w r → Small w
    → And (IsSmallTopic t) (Small r)
topic_small L _ _ _ (topic i n j k m p ds ts w r x e) s =
    let q = body_small L ds ts w (tok (word END) k ∷ tok name m ∷ tok period p ∷ r) x s in
    both (q.domains, q.tables) q.rest

topics_small : (L : ℕ) (ts : List TopicSyntax) (w r : List Tok) → IsTopics L ts w r → Small w
    → And (All IsSmallTopic ts) (Small r)
topics_small L _ _ _ (no_topic r) s = both (All-nil IsSmallTopic) s
topics_small L _ _ _ (and_topic t ts w u r x y) s =
    let p = topic_small L t w u x s in
    let q = topics_small L ts u r y p.rest in both (All-cons IsSmallTopic t ts p.this q.this) q.rest
topics_small L _ _ _ (and_optional_topic i t ts w u r x y) s =
    let p = topic_small L t w u x s in
    let q = topics_small L ts u r y p.rest in both (All-cons IsSmallTopic t ts p.this q.this) q.rest

pub numbers_small : (L : ℕ) (m : ModelSyntax) (w r : List Tok) → IsTransfer L m w r → Small w
    → AreNumbersSmall m
numbers_small L _ _ _
    (transfer a n b c d e f g h m os ds ts cs w u v x r p
    (a_model i n2 k m2 q ds2 ts2 w2 u2 r2 y z e2) t1 t2) s =
    let o = maybe_domains_small L os w u p s in
    let i = maybe_domains_small L ds w2 u2 y o.rest in
    let j = topics_small L ts u2 (tok (word END) k ∷ tok name m2 ∷ tok period q ∷ r2) z i.rest in
    record { outer = o.this; domains = i.this; topics = j.this }

-- ---- codes
abbrev InRange : ℕ → Type 0
InRange c = (33 ≤ c) × (c ≤ 126)

in_range_is : (n c : ℕ) → in_range n ≡ Some c → InRange c
in_range_is n c e = of (between 33 126 n) refl e
  where
    of : (b : Bool) → between 33 126 n ≡ b → cond b (Some n) None ≡ Some c → InRange c
    of true h e =
        let q : n ≡ c = cc in
        let p = and_parts (nat_le 33 n) (nat_le n 126) h in
        subst InRange q (leb-true 33 n p.0, leb-true n 126 p.1)
    of false h e = absurd (cc)

value_in_range : (d c : ℕ) (t : Tok) → IsValue d c t → InRange d → InRange c
value_in_range d _ _ (by_default i) h = h
value_in_range d _ _ (by_number c i e) h = of (has 45 i.text || has 46 i.text) e
  where
    of : (b : Bool) → cond b None (in_range (read_from 0 i.text)) ≡ Some c → InRange c
    of true e = absurd (cc)
    of false e = in_range_is (read_from 0 i.text) c e
value_in_range d _ _ (by_hex c i e) h = in_range_is (read_hex 0 (drop 2 i.text)) c e

codes_are : (cs : Codes) (w r : List Tok) → IsCodes cs w r → AreCodes cs
codes_are _ _ _
    (codes b u c t i j k w r v
    (undefined u1 c1 t1 i1 j1 k1 w1 r1 v1 n1 (continue c2 t2 x i2 j2 k2 l2 m2 p2 r2 v2 n2 n3 d2))) =
    record {
      blank = value_in_range 95 b t v (omega arith, omega arith);
      undefined = value_in_range 64 u t1 v1 (omega arith, omega arith);
      continued = value_in_range 92 c t2 v2 (omega arith, omega arith);
      undefined_differs = n1;
      continued_differs = (n2, n3);
    }

pub codes_differ : (L : ℕ) (m : ModelSyntax) (w r : List Tok) → IsTransfer L m w r
    → AreCodes m.codes
codes_differ L _ _ _ (transfer a n b c d e f g h m os ds ts cs w u v x r p q t1 t2) =
    codes_are cs x r t2

-- ---- the tokens of a text
token_small : (k : kind.Kind) (i : Info) (r : List Tok) → (k ≡ kinds.Number → IsSmall (decimal i))
    → Small r → Small (tok (kind_of k) i ∷ r)
token_small kinds.Name i r h s = s
token_small (kinds.Keyword k) i r h s = s
token_small kinds.Number i r h s = both (h refl) s
token_small kinds.Hex i r h s = s
token_small kinds.Explanation i r h s = s
token_small (kinds.Mark marks.Semicolon) i r h s = s
token_small (kinds.Mark marks.Colon) i r h s = s
token_small (kinds.Mark marks.Comma) i r h s = s
token_small (kinds.Mark marks.Equals) i r h s = s
token_small (kinds.Mark marks.LeftParen) i r h s = s
token_small (kinds.Mark marks.RightParen) i r h s = s
token_small (kinds.Mark marks.LeftBracket) i r h s = s
token_small (kinds.Mark marks.RightBracket) i r h s = s
token_small (kinds.Mark marks.Star) i r h s = s
token_small (kinds.Mark marks.Greater) i r h s = s
token_small (kinds.Mark marks.Period) i r h s = s
token_small (kinds.Mark marks.TwoPeriods) i r h s = s
token_small (kinds.Mark marks.Arrow) i r h s = s

short_small : (bs : List ℕ) → is_short bs ≡ true
    → (nat_abs (signed bs) < 10 ^ 18) × (decimals bs ≤ 9)
short_small bs h =
    let p = and_parts (nat_le (count_by is_ascii_digit bs) 18) (nat_le (decimals bs) 9) h in
    (small_number bs (leb-true (count_by is_ascii_digit bs) 18 p.0), leb-true (decimals bs) 9 p.1)

small_behind : (bytes : List ℕ) (p : Option Token) (ts : List Token) → are_short bytes ts ≡ true
    → Small (toks_behind bytes p ts)
small_behind bytes p [] h = tt
small_behind bytes p (t ∷ ts) h =
    let q = and_parts (is_short_token bytes t) (are_short bytes ts) h in
    token_small t.kind (info_of bytes p t) (toks_behind bytes (Some t) ts) (number_here q.0)
    (small_behind bytes (Some t) ts q.1)
  where
    number_here : is_short_token bytes t ≡ true → t.kind ≡ kinds.Number
        → IsSmall (decimal (info_of bytes p t))
    number_here e k =
        let s = (and_parts
        (cond (same_kind number (kind_of t.kind)) (is_short (bytes_of bytes t)) true) _ e).0 in
        short_small (bytes_of bytes t)
        (subst (λ (k : kind.Kind). cond (same_kind number (kind_of k))
        (is_short (bytes_of bytes t)) true ≡ true) k s)

pub tokens_small : (bytes : List ℕ) (ts : List Token) → are_short bytes ts ≡ true
    → Small (toks bytes ts)
unfolding toks
tokens_small bytes ts h = small_behind bytes None ts h

pub limits_kept : (bytes : List ℕ) (ts : List Token) (m : ModelSyntax) → length ts ≤ 4194304
    → AreLongest bytes ts → Spells m (toks bytes ts) → IsWithinLimits m
limits_kept bytes ts m f h x = record {
  numbers = numbers_small 32 m (toks bytes ts) [] x
      (tokens_small bytes ts (short_tokens bytes ts h));
  names = omega (arith, f, names_fit 32 m (toks bytes ts) [] x, length-toks bytes ts);
  named = all_named 32 m (toks bytes ts) [] x (tokens_named bytes ts h);
  codes = codes_differ 32 m (toks bytes ts) [] x;
}
