-- The names of a model are names where those of its tokens are.
use Rattle.std.proofs.Common.{ℕ, ◌-◌, List, [], ◌∷◌, All, Option, Some, None, Bool, true, false}
use Rattle.std.proofs.Common.{drop}
use Rattle.std.proofs.lemmas.List.Elements.{All-nil, All-cons, All-head, All-tail}
use Rattle.ili_lexer.specs.declared.tokens.Token.{Token}
use Rattle.ili_lexer.specs.declared.tokens.Kind as kind
use Rattle.ili_lexer.specs.declared.tokens.Kind.TheVariants as kinds
use Rattle.ili_lexer.specs.declared.tokens.Mark.TheVariants as marks
use Rattle.ili_lexer.specs.Forms.{IsName, IsToken}
use Rattle.ili_lexer.specs.Longest.{IsTaken}
use Rattle.ili_lexer.specs.Tokens.{AreLongest}
use Rattle.ili_grammar.specs.Tokens.{name, semicolon, comma, right_paren, period, word, VERTEX, END}
use Rattle.ili_grammar.specs.Tokens.{Info, Tok, tok}
use Rattle.ili_grammar.specs.Syntax.{Ident, Decimal, Element, Elements, LineHead, TypeSyntax}
use Rattle.ili_grammar.specs.Syntax.{Attributes, Content, DomainSyntax, TableSyntax, TopicSyntax}
use Rattle.ili_grammar.specs.Syntax.{ModelSyntax}
use Rattle.ili_grammar.specs.Types.{IsList, one_name, more_names, IsLists, no_list, more_lists}
use Rattle.ili_grammar.specs.Types.{IsIdents, no_ident, idents, IsMaybeIdents, without_idents}
use Rattle.ili_grammar.specs.Types.{with_idents, IsForms, last_straights, last_arcs, straights}
use Rattle.ili_grammar.specs.Types.{arcs, IsBase, no_base, base, IsOverlap, no_overlap, overlap}
use Rattle.ili_grammar.specs.Types.{IsLine, line, IsEnumeration, enumeration, IsElements}
use Rattle.ili_grammar.specs.Types.{last_element, more_elements, IsElement, leaf, node, IsExplained}
use Rattle.ili_grammar.specs.Types.{unexplained, explained, IsType, named, coord2, coord3, dim1}
use Rattle.ili_grammar.specs.Types.{dim2, radians, grads, degrees, range, text, date, halignment}
use Rattle.ili_grammar.specs.Types.{valignment, of_elements, polyline, surface, area}
use Rattle.ili_grammar.specs.Types.{IsLineAttributes, no_line_attributes, line_attributes}
use Rattle.ili_grammar.specs.Types.{IsAttributes, no_attribute, more_attributes, mandatory}
use Rattle.ili_grammar.specs.Types.{optional, IsContent, value, reference}
use Rattle.ili_grammar.specs.Models.{IsDomains, no_domain, more_domains, IsMaybeDomains}
use Rattle.ili_grammar.specs.Models.{without_domains, with_domains, IsTable, table, IsBody, no_part}
use Rattle.ili_grammar.specs.Models.{and_domains, and_table, and_optional_table, IsTopic, topic}
use Rattle.ili_grammar.specs.Models.{IsTopics, no_topic, and_topic, and_optional_topic, a_model}
use Rattle.ili_grammar.specs.Models.{IsTransfer, transfer}
use Rattle.ili_grammar.specs.Limits.{AreNamed, IsNamedTable, IsNamedTopic}
use Rattle.ili_grammar.specs.Slices.{kind_of, info_of, toks_behind, toks}

-- each token of the kind of names has the bytes of a name
abbrev pub Named : List Tok → Type 0
Named [] = Unit {0}
Named (tok name i ∷ r) = IsName i.text × Named r
Named (tok _ i ∷ r) = Named r

-- ---- behind what is read the tokens are as before
list_rest : (l : List Ident) (w r : List Tok) → IsList l w r → Named w → Named r
list_rest _ _ _ (one_name n r) s = s.1
list_rest _ _ _ (more_names n i l w r d) s = list_rest l w r d s.1

lists_rest : (ls : List (List Ident)) (w r : List Tok) → IsLists ls w r → Named w → Named r
lists_rest _ _ _ (no_list r) s = s
lists_rest _ _ _ (more_lists i l ls w u r d e) s =
    lists_rest ls u r e (list_rest l w (tok semicolon i ∷ u) d s)

idents_rest : (ls : List (List Ident)) (w r : List Tok) → IsIdents ls w r → Named w → Named r
idents_rest _ _ _ (no_ident i j r) s = s
idents_rest _ _ _ (idents i j l ls w u r d e) s =
    lists_rest ls u r e (list_rest l w (tok semicolon j ∷ u) d s)

maybe_idents_rest : (ls : List (List Ident)) (w r : List Tok) → IsMaybeIdents ls w r → Named w
    → Named r
maybe_idents_rest _ _ _ (without_idents r) s = s
maybe_idents_rest _ _ _ (with_idents ls w r d) s = idents_rest ls w r d s

forms_rest : (a b : Bool) (w r : List Tok) → IsForms a b w r → Named w → Named r
forms_rest _ _ _ _ (last_straights i j r) s = s
forms_rest _ _ _ _ (last_arcs i j r) s = s
forms_rest _ _ _ _ (straights i j a b w r d) s = forms_rest a b w r d s
forms_rest _ _ _ _ (arcs i j a b w r d) s = forms_rest a b w r d s

base_rest : (w r : List Tok) → IsBase w r → Named w → Named r
base_rest _ _ (no_base r) s = s
base_rest _ _ (base i j r) s = s

overlap_rest : (o : Option Decimal) (w r : List Tok) → IsOverlap o w r → Named w → Named r
overlap_rest _ _ _ (no_overlap r) s = s
overlap_rest _ _ _ (overlap i j k n r) s = s

line_rest : (l : LineHead) (w r : List Tok) → IsLine l w r → Named w → Named r
line_rest _ _ _ (line i j k v a b o w u x r f g d) s =
    overlap_rest o x r d
    (base_rest u x g (forms_rest a b w (tok (word VERTEX) k ∷ tok name v ∷ u) f s).1)

mutual
  enumeration_rest : (d : ℕ) (es : Elements) (w r : List Tok) → IsEnumeration d es w r → Named w
      → Named r
  enumeration_rest _ _ _ _ (enumeration d i es w r x) s = elements_rest d es w r x s

  elements_rest : (d : ℕ) (es : Elements) (w r : List Tok) → IsElements d es w r → Named w → Named r
  elements_rest _ _ _ _ (last_element d i e w r x) s =
      element_rest d e w (tok right_paren i ∷ r) x s
  elements_rest _ _ _ _ (more_elements d i e es w u r x y) s =
      elements_rest d es u r y (element_rest d e w (tok comma i ∷ u) x s)

  element_rest : (d : ℕ) (e : Element) (w r : List Tok) → IsElement d e w r → Named w → Named r
  element_rest _ _ _ _ (leaf d n r) s = s.1
  element_rest _ _ _ _ (node d n es w r x) s = enumeration_rest d es w r x s.1

explained_rest : (w r : List Tok) → IsExplained w r → Named w → Named r
explained_rest _ _ (unexplained r) s = s
explained_rest _ _ (explained i r) s = s

-- ---- types and attributes
mutual
  type_rest : (d : ℕ) (t : TypeSyntax) (w r : List Tok) → IsType d t w r → Named w → Named r
  type_rest _ _ _ _ (named d n r) s = s.1
  type_rest _ _ _ _ (coord2 d t a b g h r) s = s
  type_rest _ _ _ _ (coord3 d t a b c g h j r) s = s
  type_rest _ _ _ _ (dim1 d t a b r) s = s
  type_rest _ _ _ _ (dim2 d t a b r) s = s
  type_rest _ _ _ _ (radians d t a b r) s = s
  type_rest _ _ _ _ (grads d t a b r) s = s
  type_rest _ _ _ _ (degrees d t a b r) s = s
  type_rest _ _ _ _ (range d t a p b q r) s = s
  type_rest _ _ _ _ (text d t m a r) s = s
  type_rest _ _ _ _ (date d t r) s = s
  type_rest _ _ _ _ (halignment d t r) s = s
  type_rest _ _ _ _ (valignment d t r) s = s
  type_rest _ _ _ _ (of_elements d es w r x) s = enumeration_rest d es w r x s
  type_rest _ _ _ _ (polyline d t l w r x) s = line_rest l w r x s
  type_rest _ _ _ _ (surface d t l as_ is w u r x y) s =
      line_attributes_rest d as_ is u r y (line_rest l w u x s)
  type_rest _ _ _ _ (area d t l as_ is w u r x y) s =
      line_attributes_rest d as_ is u r y (line_rest l w u x s)

  line_attributes_rest : (d : ℕ) (as_ : Attributes) (is : List (List Ident)) (w r : List Tok)
      → IsLineAttributes d as_ is w r → Named w → Named r
  line_attributes_rest _ _ _ _ _ (no_line_attributes d r) s = s
  line_attributes_rest _ _ _ _ _ (line_attributes d i j k as_ is w u r x y) s =
      maybe_idents_rest is u (tok (word END) k ∷ r) y (attributes_named d as_ w u x s).1

  attributes_named : (d : ℕ) (as_ : Attributes) (w r : List Tok) → IsAttributes d as_ w r → Named w
      → AreNamed as_ × Named r
  attributes_named _ _ _ _ (no_attribute d r) s = (tt, s)
  attributes_named _ _ _ _ (more_attributes d _ as_ w u r (mandatory d2 n i k c w2 u2 u3 x e) y) s =
      let q = attributes_named d as_ u r y
      (explained_rest u2 (tok semicolon k ∷ u) e (content_rest d c w2 u2 x s.1)) in
      ((s.0, q.0), q.1)
  attributes_named _ _ _ _ (more_attributes d _ as_ w u r (optional d2 n i j k c w2 u2 u3 x e) y)
      s =
      let q = attributes_named d as_ u r y
      (explained_rest u2 (tok semicolon k ∷ u) e (content_rest d c w2 u2 x s.1)) in
      ((s.0, q.0), q.1)

  content_rest : (d : ℕ) (c : Content) (w r : List Tok) → IsContent d c w r → Named w → Named r
  content_rest _ _ _ _ (value d t w r x) s = type_rest d t w r x s
  content_rest _ _ _ _ (reference d i n r) s = s.1

-- ---- domains, tables and topics
domains_rest : (L : ℕ) (ds : List DomainSyntax) (w r : List Tok) → IsDomains L ds w r → Named w
    → Named r
domains_rest L _ _ _ (no_domain r) s = s
domains_rest L _ _ _ (more_domains n i k t ds w u v r x y z) s =
    domains_rest L ds v r z (explained_rest u (tok semicolon k ∷ v) y (type_rest L t w u x s.1))

maybe_domains_rest : (L : ℕ) (ds : List DomainSyntax) (w r : List Tok) → IsMaybeDomains L ds w r
    → Named w → Named r
maybe_domains_rest L _ _ _ (without_domains r) s = s
maybe_domains_rest L _ _ _ (with_domains i ds w r x) s = domains_rest L ds w r x s

table_named : (L : ℕ) (o : Bool) (t : TableSyntax) (w r : List Tok) → IsTable L o t w r → Named w
    → IsNamedTable t × Named r
table_named L o _ _ _ (table i n j k m p as_ is w u r x y e) s =
    let q = attributes_named L as_ w u x s.1 in (
      record { name = s.0; attributes = q.0 },
      (idents_rest is u (tok (word END) k ∷ tok name m ∷ tok semicolon p ∷ r) y q.1).1,
    )

body_named : (L : ℕ) (ds : List DomainSyntax) (ts : List TableSyntax) (w r : List Tok)
    → IsBody L ds ts w r → Named w → All IsNamedTable ts × Named r
body_named L _ _ _ _ (no_part r) s = (All-nil IsNamedTable, s)
body_named L _ _ _ _ (and_domains i ds es ts w u r x y) s =
    body_named L es ts u r y (domains_rest L ds w u x s)
body_named L _ _ _ _ (and_table ds t ts w u r x y) s =
    let p = table_named L false t w u x s in
    let q = body_named L ds ts u r y p.1 in (All-cons IsNamedTable t ts p.0 q.0, q.1)
body_named L _ _ _ _ (and_optional_table i ds t ts w u r x y) s =
    let p = table_named L true t w u x s in
    let q = body_named L ds ts u r y p.1 in (All-cons IsNamedTable t ts p.0 q.0, q.1)

topic_named : (L : ℕ) (t : TopicSyntax) (w r : List Tok) → IsTopic L t w r → Named w
    → IsNamedTopic t × Named r
topic_named L _ _ _ (topic i n j k m p ds ts w r x e) s =
    let q = body_named L ds ts w (tok (word END) k ∷ tok name m ∷ tok period p ∷ r) x s.1 in
    (record { name = s.0; tables = q.0 }, q.1.1)

topics_named : (L : ℕ) (ts : List TopicSyntax) (w r : List Tok) → IsTopics L ts w r → Named w
    → All IsNamedTopic ts
topics_named L _ _ _ (no_topic r) s = All-nil IsNamedTopic
topics_named L _ _ _ (and_topic t ts w u r x y) s =
    let p = topic_named L t w u x s in All-cons IsNamedTopic t ts p.0 (topics_named L ts u r y p.1)
topics_named L _ _ _ (and_optional_topic i t ts w u r x y) s =
    let p = topic_named L t w u x s in All-cons IsNamedTopic t ts p.0 (topics_named L ts u r y p.1)

pub all_named : (L : ℕ) (m : ModelSyntax) (w r : List Tok) → IsTransfer L m w r → Named w
    → All IsNamedTopic m.topics
all_named L _ _ _
    (transfer a n b c d e f g h m os ds ts cs w u v x r p
    (a_model i n2 k m2 q ds2 ts2 w2 u2 r2 y z e2) t1 t2) s =
    topics_named L ts u2 (tok (word END) k ∷ tok name m2 ∷ tok period q ∷ r2) z
    (maybe_domains_rest L ds w2 u2 y (maybe_domains_rest L os w u p s.1).1)

-- ---- the tokens of a text
token_named : (k : kind.Kind) (i : Info) (r : List Tok) → IsToken k i.text → Named r
    → Named (tok (kind_of k) i ∷ r)
token_named kinds.Name i r h s = (h, s)
token_named (kinds.Keyword k) i r h s = s
token_named kinds.Number i r h s = s
token_named kinds.Hex i r h s = s
token_named kinds.Explanation i r h s = s
token_named (kinds.Mark marks.Semicolon) i r h s = s
token_named (kinds.Mark marks.Colon) i r h s = s
token_named (kinds.Mark marks.Comma) i r h s = s
token_named (kinds.Mark marks.Equals) i r h s = s
token_named (kinds.Mark marks.LeftParen) i r h s = s
token_named (kinds.Mark marks.RightParen) i r h s = s
token_named (kinds.Mark marks.LeftBracket) i r h s = s
token_named (kinds.Mark marks.RightBracket) i r h s = s
token_named (kinds.Mark marks.Star) i r h s = s
token_named (kinds.Mark marks.Greater) i r h s = s
token_named (kinds.Mark marks.Period) i r h s = s
token_named (kinds.Mark marks.TwoPeriods) i r h s = s
token_named (kinds.Mark marks.Arrow) i r h s = s

named_behind : (bytes : List ℕ) (p : Option Token) (ts : List Token) → AreLongest bytes ts
    → Named (toks_behind bytes p ts)
named_behind bytes p [] h = tt
named_behind bytes p (t ∷ ts) h =
    let P : Token → Type 0 = λ t. IsTaken (drop t.from bytes) t.kind (t.upto - t.from) in
    token_named t.kind (info_of bytes p t) (toks_behind bytes (Some t) ts)
    (All-head P t ts h).longest.stands.token
    (named_behind bytes (Some t) ts (All-tail P t ts h))

pub tokens_named : (bytes : List ℕ) (ts : List Token) → AreLongest bytes ts → Named (toks bytes ts)
unfolding toks
tokens_named bytes ts h = named_behind bytes None ts h
