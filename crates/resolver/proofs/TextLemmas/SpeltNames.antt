-- The names of a model are name tokens of its text.
use Rattle.std.proofs.Common.{ℕ, List, [], ◌∷◌, Option, Bool, true, false}
use Rattle.ili_grammar.specs.Tokens.{name, semicolon, comma, right_paren, period, word, VERTEX, END}
use Rattle.ili_grammar.specs.Tokens.{Tok, tok}
use Rattle.ili_grammar.specs.Numbers.{ident}
use Rattle.ili_grammar.specs.Syntax.{Ident, Decimal, Element, Elements, LineHead, TypeSyntax}
use Rattle.ili_grammar.specs.Syntax.{Attributes, AttributeSyntax, Content, DomainSyntax}
use Rattle.ili_grammar.specs.Syntax.{TableSyntax, TopicSyntax, ModelSyntax}
use Rattle.ili_grammar.specs.Types.{IsList, one_name, more_names, IsLists, no_list, more_lists}
use Rattle.ili_grammar.specs.Types.{IsIdents, no_ident, idents, IsMaybeIdents, without_idents}
use Rattle.ili_grammar.specs.Types.{with_idents, IsForms, last_straights, last_arcs, straights}
use Rattle.ili_grammar.specs.Types.{arcs, IsBase, no_base, base, IsOverlap, no_overlap, overlap}
use Rattle.ili_grammar.specs.Types.{IsLine, line, IsEnumeration, enumeration, IsElements}
use Rattle.ili_grammar.specs.Types.{last_element, more_elements, IsElement, leaf, node, IsExplained}
use Rattle.ili_grammar.specs.Types.{unexplained, explained, IsType, named, coord2, coord3, dim1}
use Rattle.ili_grammar.specs.Types.{dim2, radians, grads, degrees, range, text, date, halignment}
use Rattle.ili_grammar.specs.Types.{valignment, of_elements, polyline, surface, area}
use Rattle.ili_grammar.specs.Types.{IsLineAttributes, no_line_attributes, line_attributes}
use Rattle.ili_grammar.specs.Types.{IsAttributes, no_attribute, more_attributes, IsAttribute}
use Rattle.ili_grammar.specs.Types.{mandatory, optional, IsContent, value, reference}
use Rattle.ili_grammar.specs.Models.{IsDomains, no_domain, more_domains, IsMaybeDomains}
use Rattle.ili_grammar.specs.Models.{without_domains, with_domains, IsTable, table, IsBody, no_part}
use Rattle.ili_grammar.specs.Models.{and_domains, and_table, and_optional_table, IsTopic, topic}
use Rattle.ili_grammar.specs.Models.{IsTopics, no_topic, and_topic, and_optional_topic, a_model}
use Rattle.ili_grammar.specs.Models.{IsTransfer, transfer}
use Rattle.resolver.proofs.TextLemmas.BrokenNames.{Each, each_both, ElementsNames, ElementNames}
use Rattle.resolver.proofs.TextLemmas.BrokenNames.{TypeNames}
use Rattle.resolver.proofs.TextLemmas.BrokenNames.{AttributesNames, AttributeNames, ContentNames}
use Rattle.resolver.proofs.TextLemmas.BrokenNames.{DomainNames}
use Rattle.resolver.proofs.TextLemmas.BrokenNames.{TableNames, TopicNames, ModelNames}

module _ (Q : Ident → Type 0) where
  -- each token of the kind of names is such a name
  abbrev pub TokenNames : List Tok → Type 0
  TokenNames [] = Unit {0}
  TokenNames (tok name i ∷ r) = Q (ident i) × TokenNames r
  TokenNames (tok _ i ∷ r) = TokenNames r

  -- ---- the names of what is read, and those of the tokens after it
  list_names : (l : List Ident) (w r : List Tok) → IsList l w r → TokenNames w
      → Each Q l × TokenNames r
  list_names _ _ _ (one_name n r) s = ((s.0, tt), s.1)
  list_names _ _ _ (more_names n i l w r d) s = let q = list_names l w r d s.1 in ((s.0, q.0), q.1)

  lists_names : (ls : List (List Ident)) (w r : List Tok) → IsLists ls w r → TokenNames w
      → Each (Each Q) ls × TokenNames r
  lists_names _ _ _ (no_list r) s = (tt, s)
  lists_names _ _ _ (more_lists i l ls w u r d e) s =
      let p = list_names l w (tok semicolon i ∷ u) d s in
      let q = lists_names ls u r e p.1 in ((p.0, q.0), q.1)

  idents_names : (ls : List (List Ident)) (w r : List Tok) → IsIdents ls w r → TokenNames w
      → Each (Each Q) ls × TokenNames r
  idents_names _ _ _ (no_ident i j r) s = (tt, s)
  idents_names _ _ _ (idents i j l ls w u r d e) s =
      let p = list_names l w (tok semicolon j ∷ u) d s in
      let q = lists_names ls u r e p.1 in ((p.0, q.0), q.1)

  maybe_idents_names : (ls : List (List Ident)) (w r : List Tok) → IsMaybeIdents ls w r
      → TokenNames w → Each (Each Q) ls × TokenNames r
  maybe_idents_names _ _ _ (without_idents r) s = (tt, s)
  maybe_idents_names _ _ _ (with_idents ls w r d) s = idents_names ls w r d s

  forms_rest : (a b : Bool) (w r : List Tok) → IsForms a b w r → TokenNames w → TokenNames r
  forms_rest _ _ _ _ (last_straights i j r) s = s
  forms_rest _ _ _ _ (last_arcs i j r) s = s
  forms_rest _ _ _ _ (straights i j a b w r d) s = forms_rest a b w r d s
  forms_rest _ _ _ _ (arcs i j a b w r d) s = forms_rest a b w r d s

  base_rest : (w r : List Tok) → IsBase w r → TokenNames w → TokenNames r
  base_rest _ _ (no_base r) s = s
  base_rest _ _ (base i j r) s = s

  overlap_rest : (o : Option Decimal) (w r : List Tok) → IsOverlap o w r → TokenNames w
      → TokenNames r
  overlap_rest _ _ _ (no_overlap r) s = s
  overlap_rest _ _ _ (overlap i j k n r) s = s

  line_names : (l : LineHead) (w r : List Tok) → IsLine l w r → TokenNames w
      → Q l.vertex × TokenNames r
  line_names _ _ _ (line i j k v a b o w u x r f g d) s =
      let p = forms_rest a b w (tok (word VERTEX) k ∷ tok name v ∷ u) f s in
      (p.0, overlap_rest o x r d (base_rest u x g p.1))

  mutual
    enumeration_names : (d : ℕ) (es : Elements) (w r : List Tok) → IsEnumeration d es w r
        → TokenNames w → ElementsNames Q es × TokenNames r
    enumeration_names _ _ _ _ (enumeration d i es w r x) s = elements_names d es w r x s

    elements_names : (d : ℕ) (es : Elements) (w r : List Tok) → IsElements d es w r → TokenNames w
        → ElementsNames Q es × TokenNames r
    elements_names _ _ _ _ (last_element d i e w r x) s =
        let p = element_names d e w (tok right_paren i ∷ r) x s in ((p.0, tt), p.1)
    elements_names _ _ _ _ (more_elements d i e es w u r x y) s =
        let p = element_names d e w (tok comma i ∷ u) x s in
        let q = elements_names d es u r y p.1 in ((p.0, q.0), q.1)

    element_names : (d : ℕ) (e : Element) (w r : List Tok) → IsElement d e w r → TokenNames w
        → ElementNames Q e × TokenNames r
    element_names _ _ _ _ (leaf d n r) s = ((s.0, tt), s.1)
    element_names _ _ _ _ (node d n es w r x) s =
        let p = enumeration_names d es w r x s.1 in ((s.0, p.0), p.1)

  explained_rest : (w r : List Tok) → IsExplained w r → TokenNames w → TokenNames r
  explained_rest _ _ (unexplained r) s = s
  explained_rest _ _ (explained i r) s = s

  -- ---- types and attributes
  mutual
    type_names : (d : ℕ) (t : TypeSyntax) (w r : List Tok) → IsType d t w r → TokenNames w
        → TypeNames Q t × TokenNames r
    type_names _ _ _ _ (named d n r) s = s
    type_names _ _ _ _ (coord2 d t a b g h r) s = (tt, s)
    type_names _ _ _ _ (coord3 d t a b c g h j r) s = (tt, s)
    type_names _ _ _ _ (dim1 d t a b r) s = (tt, s)
    type_names _ _ _ _ (dim2 d t a b r) s = (tt, s)
    type_names _ _ _ _ (radians d t a b r) s = (tt, s)
    type_names _ _ _ _ (grads d t a b r) s = (tt, s)
    type_names _ _ _ _ (degrees d t a b r) s = (tt, s)
    type_names _ _ _ _ (range d t a p b q r) s = (tt, s)
    type_names _ _ _ _ (text d t m a r) s = (tt, s)
    type_names _ _ _ _ (date d t r) s = (tt, s)
    type_names _ _ _ _ (halignment d t r) s = (tt, s)
    type_names _ _ _ _ (valignment d t r) s = (tt, s)
    type_names _ _ _ _ (of_elements d es w r x) s = enumeration_names d es w r x s
    type_names _ _ _ _ (polyline d t l w r x) s =
        let p = line_names l w r x s in ((p.0, tt, tt), p.1)
    type_names _ _ _ _ (surface d t l as_ is w u r x y) s =
        let p = line_names l w u x s in
        let q = line_attributes_names d as_ is u r y p.1 in ((p.0, q.0.0, q.0.1), q.1)
    type_names _ _ _ _ (area d t l as_ is w u r x y) s =
        let p = line_names l w u x s in
        let q = line_attributes_names d as_ is u r y p.1 in ((p.0, q.0.0, q.0.1), q.1)

    line_attributes_names : (d : ℕ) (as_ : Attributes) (is : List (List Ident)) (w r : List Tok)
        → IsLineAttributes d as_ is w r → TokenNames w
        → (AttributesNames Q as_ × Each (Each Q) is) × TokenNames r
    line_attributes_names _ _ _ _ _ (no_line_attributes d r) s = ((tt, tt), s)
    line_attributes_names _ _ _ _ _ (line_attributes d i j k as_ is w u r x y) s =
        let p = attributes_names d as_ w u x s in
        let q = maybe_idents_names is u (tok (word END) k ∷ r) y p.1 in ((p.0, q.0), q.1)

    attributes_names : (d : ℕ) (as_ : Attributes) (w r : List Tok) → IsAttributes d as_ w r
        → TokenNames w → AttributesNames Q as_ × TokenNames r
    attributes_names _ _ _ _ (no_attribute d r) s = (tt, s)
    attributes_names _ _ _ _ (more_attributes d a as_ w u r x y) s =
        let p = attribute_names d a w u x s in
        let q = attributes_names d as_ u r y p.1 in ((p.0, q.0), q.1)

    attribute_names : (d : ℕ) (a : AttributeSyntax) (w r : List Tok) → IsAttribute d a w r
        → TokenNames w → AttributeNames Q a × TokenNames r
    attribute_names _ _ _ _ (mandatory d n i k c w u r x e) s =
        let p = content_names d c w u x s.1 in
        ((s.0, p.0), explained_rest u (tok semicolon k ∷ r) e p.1)
    attribute_names _ _ _ _ (optional d n i j k c w u r x e) s =
        let p = content_names d c w u x s.1 in
        ((s.0, p.0), explained_rest u (tok semicolon k ∷ r) e p.1)

    content_names : (d : ℕ) (c : Content) (w r : List Tok) → IsContent d c w r → TokenNames w
        → ContentNames Q c × TokenNames r
    content_names _ _ _ _ (value d t w r x) s = type_names d t w r x s
    content_names _ _ _ _ (reference d i n r) s = s

  -- ---- domains, tables and topics
  domains_names : (L : ℕ) (ds : List DomainSyntax) (w r : List Tok) → IsDomains L ds w r
      → TokenNames w → Each (DomainNames Q) ds × TokenNames r
  domains_names L _ _ _ (no_domain r) s = (tt, s)
  domains_names L _ _ _ (more_domains n i k t ds w u v r x y z) s =
      let p = type_names L t w u x s.1 in
      let q = domains_names L ds v r z (explained_rest u (tok semicolon k ∷ v) y p.1) in
      (((s.0, p.0), q.0), q.1)

  maybe_domains_names : (L : ℕ) (ds : List DomainSyntax) (w r : List Tok) → IsMaybeDomains L ds w r
      → TokenNames w → Each (DomainNames Q) ds × TokenNames r
  maybe_domains_names L _ _ _ (without_domains r) s = (tt, s)
  maybe_domains_names L _ _ _ (with_domains i ds w r x) s = domains_names L ds w r x s

  table_names : (L : ℕ) (o : Bool) (t : TableSyntax) (w r : List Tok) → IsTable L o t w r
      → TokenNames w → TableNames Q t × TokenNames r
  table_names L o _ _ _ (table i n j k m p as_ is w u r x y e) s =
      let a = attributes_names L as_ w u x s.1 in
      let b = idents_names is u (tok (word END) k ∷ tok name m ∷ tok semicolon p ∷ r) y a.1 in
      ((s.0, a.0, b.0), b.1.1)

  body_names : (L : ℕ) (ds : List DomainSyntax) (ts : List TableSyntax) (w r : List Tok)
      → IsBody L ds ts w r → TokenNames w
      → (Each (DomainNames Q) ds × Each (TableNames Q) ts) × TokenNames r
  body_names L _ _ _ _ (no_part r) s = ((tt, tt), s)
  body_names L _ _ _ _ (and_domains i ds es ts w u r x y) s =
      let p = domains_names L ds w u x s in
      let q = body_names L es ts u r y p.1 in
      ((each_both (DomainNames Q) ds es p.0 q.0.0, q.0.1), q.1)
  body_names L _ _ _ _ (and_table ds t ts w u r x y) s =
      let p = table_names L false t w u x s in
      let q = body_names L ds ts u r y p.1 in ((q.0.0, (p.0, q.0.1)), q.1)
  body_names L _ _ _ _ (and_optional_table i ds t ts w u r x y) s =
      let p = table_names L true t w u x s in
      let q = body_names L ds ts u r y p.1 in ((q.0.0, (p.0, q.0.1)), q.1)

  topic_names : (L : ℕ) (t : TopicSyntax) (w r : List Tok) → IsTopic L t w r → TokenNames w
      → TopicNames Q t × TokenNames r
  topic_names L _ _ _ (topic i n j k m p ds ts w r x e) s =
      let q = body_names L ds ts w (tok (word END) k ∷ tok name m ∷ tok period p ∷ r) x s.1 in
      ((s.0, q.0.0, q.0.1), q.1.1)

  topics_names : (L : ℕ) (ts : List TopicSyntax) (w r : List Tok) → IsTopics L ts w r → TokenNames w
      → Each (TopicNames Q) ts
  topics_names L _ _ _ (no_topic r) s = tt
  topics_names L _ _ _ (and_topic t ts w u r x y) s =
      let p = topic_names L t w u x s in (p.0, topics_names L ts u r y p.1)
  topics_names L _ _ _ (and_optional_topic i t ts w u r x y) s =
      let p = topic_names L t w u x s in (p.0, topics_names L ts u r y p.1)

  pub model_names : (L : ℕ) (m : ModelSyntax) (w r : List Tok) → IsTransfer L m w r → TokenNames w
      → ModelNames Q m
  model_names L _ _ _
      (transfer a n b c d e f g h m os ds ts cs w u v x r p
      (a_model i n2 k m2 q ds2 ts2 w2 u2 r2 y z e2) t1 t2) s =
      let outer = maybe_domains_names L os w u p s.1 in
      let own = maybe_domains_names L ds2 w2 u2 y outer.1.1 in
      record {
        everywhere = each_both (DomainNames Q) os ds2 outer.0 own.0;
        topics = topics_names L ts2 u2 (tok (word END) k ∷ tok name m2 ∷ tok period q ∷ r2) z own.1;
      }
