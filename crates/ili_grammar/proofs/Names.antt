-- A model has no more names than tokens.
use Rattle.std.proofs.Common.{◌≡◌, ℕ, ◌+◌, ◌≤◌, List, [], ◌∷◌, length, arith, refl, Option, Bool}
use Rattle.std.specs.List.{sum_by}
use Rattle.std.proofs.lemmas.List.Sums.{sum_by-append}
use Rattle.ili_grammar.specs.Tokens.{name, semicolon, comma, right_paren, word, VERTEX, END, period}
use Rattle.ili_grammar.specs.Tokens.{Tok, tok}
use Rattle.ili_grammar.specs.Syntax.{Ident, Decimal, Element, Elements, LineHead, TypeSyntax}
use Rattle.ili_grammar.specs.Syntax.{Attributes, AttributeSyntax, Content, DomainSyntax}
use Rattle.ili_grammar.specs.Syntax.{TableSyntax, TopicSyntax, ModelSyntax}
use Rattle.ili_grammar.specs.Numbers.{ident}
use Rattle.ili_grammar.specs.Types.{IsList, one_name, more_names, IsLists, no_list, more_lists}
use Rattle.ili_grammar.specs.Types.{IsIdents, no_ident, idents, IsMaybeIdents, without_idents}
use Rattle.ili_grammar.specs.Types.{with_idents, IsForms, last_straights, last_arcs, straights}
use Rattle.ili_grammar.specs.Types.{arcs, IsBase, no_base, base, IsOverlap, no_overlap, overlap}
use Rattle.ili_grammar.specs.Types.{IsLine, line, IsEnumeration, enumeration, IsElements}
use Rattle.ili_grammar.specs.Types.{last_element, more_elements, IsElement, leaf, node, IsExplained}
use Rattle.ili_grammar.specs.Types.{unexplained, explained, IsType, named, coord2, coord3, dim1}
use Rattle.ili_grammar.specs.Types.{dim2, radians, grads, degrees, range, text, date, halignment}
use Rattle.ili_grammar.specs.Types.{valignment, of_elements, polyline, surface, area}
use Rattle.ili_grammar.specs.Types.{IsLineAttributes, no_line_attributes, line_attributes}
use Rattle.ili_grammar.specs.Types.{IsAttributes, no_attribute, more_attributes, IsAttribute}
use Rattle.ili_grammar.specs.Types.{mandatory, optional, IsContent, value, reference}
use Rattle.ili_grammar.specs.Models.{IsDomains, no_domain, more_domains, IsMaybeDomains}
use Rattle.ili_grammar.specs.Models.{without_domains, with_domains, IsTable, table, IsBody, no_part}
use Rattle.ili_grammar.specs.Models.{and_domains, and_table, and_optional_table, IsTopic, topic}
use Rattle.ili_grammar.specs.Models.{IsTopics, no_topic, and_topic, and_optional_topic, a_model}
use Rattle.ili_grammar.specs.Models.{IsTransfer, transfer}
use Rattle.ili_grammar.specs.Limits.{element_names, elements_names, lists_names, type_names}
use Rattle.ili_grammar.specs.Limits.{attributes_names, attribute_names, content_names, domain_names}
use Rattle.ili_grammar.specs.Limits.{table_names, topic_names, name_count}

sum_cons : {X : Type 0} (f : X → ℕ) (x : X) (xs : List X) → sum_by f (x ∷ xs) ≡ f x + sum_by f xs
sum_cons f x xs =
    let e = sum_by-append f (x ∷ []) xs in
    let h : sum_by f (x ∷ []) ≡ 0 + f x = refl in omega (arith, e, h)

lists_cons : (l : List Ident) (ls : List (List Ident))
    → lists_names (l ∷ ls) ≡ length l + lists_names ls
lists_cons l ls = sum_cons (λ (l : List Ident). length l) l ls

list_fits : (l : List Ident) (w r : List Tok) → IsList l w r → length l + length r ≤ length w
list_fits _ _ _ (one_name n r) = omega arith
list_fits _ _ _ (more_names n i l w r d) = omega (arith, list_fits l w r d)

lists_fit : (ls : List (List Ident)) (w r : List Tok) → IsLists ls w r
    → lists_names ls + length r ≤ length w
lists_fit _ _ _ (no_list r) = omega arith
lists_fit _ _ _ (more_lists i l ls w u r d e) =
    omega (arith, list_fits l w (tok semicolon i ∷ u) d, lists_fit ls u r e, lists_cons l ls)

idents_fit : (ls : List (List Ident)) (w r : List Tok) → IsIdents ls w r
    → lists_names ls + length r ≤ length w
idents_fit _ _ _ (no_ident i j r) = omega arith
idents_fit _ _ _ (idents i j l ls w u r d e) =
    omega (arith, list_fits l w (tok semicolon j ∷ u) d, lists_fit ls u r e, lists_cons l ls)

maybe_idents_fit : (ls : List (List Ident)) (w r : List Tok) → IsMaybeIdents ls w r
    → lists_names ls + length r ≤ length w
maybe_idents_fit _ _ _ (without_idents r) = omega arith
maybe_idents_fit _ _ _ (with_idents ls w r d) = idents_fit ls w r d

forms_fit : (s a : Bool) (w r : List Tok) → IsForms s a w r → length r ≤ length w
forms_fit _ _ _ _ (last_straights i j r) = omega arith
forms_fit _ _ _ _ (last_arcs i j r) = omega arith
forms_fit _ _ _ _ (straights i j s a w r d) = omega (arith, forms_fit s a w r d)
forms_fit _ _ _ _ (arcs i j s a w r d) = omega (arith, forms_fit s a w r d)

base_fits : (w r : List Tok) → IsBase w r → length r ≤ length w
base_fits _ _ (no_base r) = omega arith
base_fits _ _ (base i j r) = omega arith

overlap_fits : (o : Option Decimal) (w r : List Tok) → IsOverlap o w r → length r ≤ length w
overlap_fits _ _ _ (no_overlap r) = omega arith
overlap_fits _ _ _ (overlap i j k n r) = omega arith

line_fits : (l : LineHead) (w r : List Tok) → IsLine l w r → 1 + length r ≤ length w
line_fits _ _ _ (line i j k v s a o w u x r f b d) =
    omega (
      arith,
      forms_fit s a w (tok (word VERTEX) k ∷ tok name v ∷ u) f,
      base_fits u x b,
      overlap_fits o x r d,
    )

mutual
  enumeration_fits : (d : ℕ) (es : Elements) (w r : List Tok) → IsEnumeration d es w r
      → elements_names es + length r ≤ length w
  enumeration_fits _ _ _ _ (enumeration d i es w r x) = omega (arith, elements_fit d es w r x)

  elements_fit : (d : ℕ) (es : Elements) (w r : List Tok) → IsElements d es w r
      → elements_names es + length r ≤ length w
  elements_fit _ _ _ _ (last_element d i e w r x) =
      omega (arith, element_fits d e w (tok right_paren i ∷ r) x)
  elements_fit _ _ _ _ (more_elements d i e es w u r x y) =
      omega (arith, element_fits d e w (tok comma i ∷ u) x, elements_fit d es u r y)

  element_fits : (d : ℕ) (e : Element) (w r : List Tok) → IsElement d e w r
      → element_names e + length r ≤ length w
  element_fits _ _ _ _ (leaf d n r) = omega arith
  element_fits _ _ _ _ (node d n es w r x) = omega (arith, enumeration_fits d es w r x)

explained_fits : (w r : List Tok) → IsExplained w r → length r ≤ length w
explained_fits _ _ (unexplained r) = omega arith
explained_fits _ _ (explained i r) = omega arith

mutual
  type_fits : (d : ℕ) (t : TypeSyntax) (w r : List Tok) → IsType d t w r
      → type_names t + length r ≤ length w
  type_fits _ _ _ _ (named d n r) = omega arith
  type_fits _ _ _ _ (coord2 d t a b g h r) = omega arith
  type_fits _ _ _ _ (coord3 d t a b c g h j r) = omega arith
  type_fits _ _ _ _ (dim1 d t a b r) = omega arith
  type_fits _ _ _ _ (dim2 d t a b r) = omega arith
  type_fits _ _ _ _ (radians d t a b r) = omega arith
  type_fits _ _ _ _ (grads d t a b r) = omega arith
  type_fits _ _ _ _ (degrees d t a b r) = omega arith
  type_fits _ _ _ _ (range d t a p b q r) = omega arith
  type_fits _ _ _ _ (text d t s a r) = omega arith
  type_fits _ _ _ _ (date d t r) = omega arith
  type_fits _ _ _ _ (halignment d t r) = omega arith
  type_fits _ _ _ _ (valignment d t r) = omega arith
  type_fits _ _ _ _ (of_elements d es w r x) = enumeration_fits d es w r x
  type_fits _ _ _ _ (polyline d t l w r x) = omega (arith, line_fits l w r x)
  type_fits _ _ _ _ (surface d t l as_ is w u r x y) =
      omega (arith, line_fits l w u x, line_attributes_fit d as_ is u r y)
  type_fits _ _ _ _ (area d t l as_ is w u r x y) =
      omega (arith, line_fits l w u x, line_attributes_fit d as_ is u r y)

  line_attributes_fit : (d : ℕ) (as_ : Attributes) (is : List (List Ident)) (w r : List Tok)
      → IsLineAttributes d as_ is w r → attributes_names as_ + lists_names is + length r ≤ length w
  line_attributes_fit _ _ _ _ _ (no_line_attributes d r) = omega arith
  line_attributes_fit _ _ _ _ _ (line_attributes d i j k as_ is w u r x y) =
      omega (arith, attributes_fit d as_ w u x, maybe_idents_fit is u (tok (word END) k ∷ r) y)

  attributes_fit : (d : ℕ) (as_ : Attributes) (w r : List Tok) → IsAttributes d as_ w r
      → attributes_names as_ + length r ≤ length w
  attributes_fit _ _ _ _ (no_attribute d r) = omega arith
  attributes_fit _ _ _ _ (more_attributes d a as_ w u r x y) =
      omega (arith, attribute_fits d a w u x, attributes_fit d as_ u r y)

  attribute_fits : (d : ℕ) (a : AttributeSyntax) (w r : List Tok) → IsAttribute d a w r
      → attribute_names a + length r ≤ length w
  attribute_fits _ _ _ _ (mandatory d n i k c w u r x y) =
      omega (arith, content_fits d c w u x, explained_fits u (tok semicolon k ∷ r) y)
  attribute_fits _ _ _ _ (optional d n i j k c w u r x y) =
      omega (arith, content_fits d c w u x, explained_fits u (tok semicolon k ∷ r) y)

  content_fits : (d : ℕ) (c : Content) (w r : List Tok) → IsContent d c w r
      → content_names c + length r ≤ length w
  content_fits _ _ _ _ (value d t w r x) = type_fits d t w r x
  content_fits _ _ _ _ (reference d i n r) = omega arith

domains_fit : (L : ℕ) (ds : List DomainSyntax) (w r : List Tok) → IsDomains L ds w r
    → sum_by domain_names ds + length r ≤ length w
domains_fit L _ _ _ (no_domain r) = omega arith
domains_fit L _ _ _ (more_domains n i k t ds w u v r x y z) =
    omega (
      arith,
      type_fits L t w u x,
      explained_fits u (tok semicolon k ∷ v) y,
      domains_fit L ds v r z,
      sum_cons domain_names (record { name = ident n; kind = t }) ds,
    )

maybe_domains_fit : (L : ℕ) (ds : List DomainSyntax) (w r : List Tok) → IsMaybeDomains L ds w r
    → sum_by domain_names ds + length r ≤ length w
maybe_domains_fit L _ _ _ (without_domains r) = omega arith
maybe_domains_fit L _ _ _ (with_domains i ds w r x) = omega (arith, domains_fit L ds w r x)

table_fits : (L : ℕ) (o : Bool) (t : TableSyntax) (w r : List Tok) → IsTable L o t w r
    → table_names t + length r ≤ length w
table_fits L o _ _ _ (table i n j k m p as_ is w u r x y e) =
    omega (
      arith,
      attributes_fit L as_ w u x,
      idents_fit is u (tok (word END) k ∷ tok name m ∷ tok semicolon p ∷ r) y,
    )

body_fits : (L : ℕ) (ds : List DomainSyntax) (ts : List TableSyntax) (w r : List Tok)
    → IsBody L ds ts w r → sum_by domain_names ds + sum_by table_names ts + length r ≤ length w
body_fits L _ _ _ _ (no_part r) = omega arith
body_fits L _ _ _ _ (and_domains i ds es ts w u r x y) =
    omega (arith, domains_fit L ds w u x, body_fits L es ts u r y, sum_by-append domain_names ds es)
body_fits L _ _ _ _ (and_table ds t ts w u r x y) =
    omega (arith, table_fits L _ t w u x, body_fits L ds ts u r y, sum_cons table_names t ts)
body_fits L _ _ _ _ (and_optional_table i ds t ts w u r x y) =
    omega (arith, table_fits L _ t w u x, body_fits L ds ts u r y, sum_cons table_names t ts)

topic_fits : (L : ℕ) (t : TopicSyntax) (w r : List Tok) → IsTopic L t w r
    → topic_names t + length r ≤ length w
topic_fits L _ _ _ (topic i n j k m p ds ts w r x e) =
    omega (arith, body_fits L ds ts w (tok (word END) k ∷ tok name m ∷ tok period p ∷ r) x)

topics_fit : (L : ℕ) (ts : List TopicSyntax) (w r : List Tok) → IsTopics L ts w r
    → sum_by topic_names ts + length r ≤ length w
topics_fit L _ _ _ (no_topic r) = omega arith
topics_fit L _ _ _ (and_topic t ts w u r x y) =
    omega (arith, topic_fits L t w u x, topics_fit L ts u r y, sum_cons topic_names t ts)
topics_fit L _ _ _ (and_optional_topic i t ts w u r x y) =
    omega (arith, topic_fits L t w u x, topics_fit L ts u r y, sum_cons topic_names t ts)

pub names_fit : (L : ℕ) (m : ModelSyntax) (w r : List Tok) → IsTransfer L m w r
    → name_count m ≤ length w
names_fit L _ _ _
    (transfer a n b c d e f g h m os ds ts cs w u v x r p
    (a_model i n2 k m2 q ds2 ts2 w2 u2 r2 y z e2) s t) =
    omega (
      arith,
      maybe_domains_fit L os w u p,
      maybe_domains_fit L ds w2 u2 y,
      topics_fit L ts u2 (tok (word END) k ∷ tok name m2 ∷ tok period q ∷ r2) z,
    )
