-- Each rule that is broken is a fault of the list.
use Rattle.std.proofs.Common.{◌≡◌, ℕ, ◌+◌, ◌⊎◌, inl, inr, Bool, true, false, cond, not, ◌&&◌, List}
use Rattle.std.proofs.Common.{[], ◌++◌, map, Option, Some, refl, ap, sym, ◌∙◌, subst, arith}
use Rattle.std.specs.Prelude.{Contains}
use Rattle.std.specs.List.{list_any, flat_map}
use Rattle.std.specs.Option.{option_map_or}
use Rattle.ili_grammar.specs.Syntax.{Ident, Decimal, Span, Element, an_element, Elements}
use Rattle.ili_grammar.specs.Syntax.{no_elements, and_element, TypeSyntax, Named, Coord2, Coord3}
use Rattle.ili_grammar.specs.Syntax.{Dim1, Dim2, Radians, Grads, Degrees, Range, Text, Date}
use Rattle.ili_grammar.specs.Syntax.{HAlignment, VAlignment, Enumeration, Polyline, Surface, Area}
use Rattle.ili_grammar.specs.Syntax.{LineHead, LineSyntax, a_line, Attributes, no_attributes}
use Rattle.ili_grammar.specs.Syntax.{and_attribute, AttributeSyntax, an_attribute, Content, Value}
use Rattle.ili_grammar.specs.Syntax.{Reference, TableSyntax, TopicSyntax, ModelSyntax}
use Rattle.resolver.specs.declared.faults.ModelCode.{ModelCode}
use Rattle.resolver.specs.declared.faults.ModelCode.TheVariants as code
use Rattle.resolver.specs.declared.shape.Shape.{Shape}
use Rattle.resolver.specs.declared.shape.Shape.TheVariants as shapes
use Rattle.resolver.specs.Faults.{Fault, fault_if}
use Rattle.resolver.specs.Numbers.{spans, scale_of, is_reversed, has_long_bound, is_wide, is_long}
use Rattle.resolver.specs.Numbers.{is_text_length}
use Rattle.resolver.specs.Lines.{is_area, suits, is_coord, is_long_overlap, is_line, stands_for}
use Rattle.resolver.specs.Rules.{Entry, entry, twice, twice_in, element_names, parts_faults}
use Rattle.resolver.specs.Rules.{element_faults, spans_faults, numbers_faults, type_name_faults}
use Rattle.resolver.specs.Rules.{reference_faults, kind_faults, meaning_faults, vertex_faults}
use Rattle.resolver.specs.Rules.{attribute_names, list_faults, lists_faults, names_faults}
use Rattle.resolver.specs.Rules.{line_attribute_fault, line_attribute_faults, type_faults}
use Rattle.resolver.specs.Rules.{line_faults, attributes_faults, attribute_faults, content_faults}
use Rattle.resolver.specs.Rules.{cycle_faults, domain_faults, domains_faults, table_entries}
use Rattle.resolver.specs.Rules.{table_faults, tables_faults, topic_faults, faults}
use Rattle.resolver.specs.Rules as rules
use Rattle.resolver.specs.Scopes.{Scope, Meaning, texts, is_among, is_visible, names_of}
use Rattle.resolver.specs.Scopes.{domain_names, leads, comes_to, longest, meaning, everywhere}
use Rattle.resolver.specs.Scopes.{outside, inside}
use Rattle.resolver.specs.Standing.{StandsFor}
use Rattle.resolver.specs.Occurring.{IsScope, of_model, of_topic, HasType, of_domain, of_attribute}
use Rattle.resolver.specs.Occurring.{HasAttributes, of_table, of_line, HasAttribute, HasLine}
use Rattle.resolver.specs.Occurring.{HasReference, HasElement, HasElements, of_type, of_element}
use Rattle.resolver.specs.Occurring.{line_type}
use Rattle.resolver.specs.Breaking.{Breaks, unknown_type, unknown_vertex, unknown_reference}
use Rattle.resolver.specs.Breaking.{not_table, domain_twice, topic_twice, table_twice}
use Rattle.resolver.specs.Breaking.{attribute_twice, element_twice, ident_twice, cycle, reversed}
use Rattle.resolver.specs.Breaking.{no_length, long_bound, long_overlap, unsuited, wide}
use Rattle.resolver.specs.Breaking.{line_attribute, no_attribute}
use Rattle.resolver.proofs.ListLemmas.Members.{In, in_contained, contains, in_before, in_after}
use Rattle.resolver.proofs.ListLemmas.Members.{in_each}
use Rattle.resolver.proofs.ListLemmas.Members.{in_any, not_among}
use Rattle.resolver.proofs.RuleLemmas.Meant.{AreShort, stands_meant, means_test, back_comes}
use Rattle.resolver.proofs.RuleLemmas.Meant.{item_below}
use Rattle.resolver.proofs.RuleLemmas.FaultParts.{at, in_if, not_is, is_seen, is_unseen, again_told}
use Rattle.resolver.proofs.RuleLemmas.FaultParts.{in_cycles}
use Rattle.resolver.proofs.RuleLemmas.FaultParts.{tables_one, is_long_number, are_long_bounds}
use Rattle.resolver.proofs.RuleLemmas.FaultParts.{are_reversed}
use Rattle.resolver.proofs.RuleLemmas.FaultParts.{is_no_length}

-- ---- the lists of parts are within the list of all
topic_within : (m : ModelSyntax) (t : TopicSyntax) (f : Fault) → Contains m.topics t
    → In (topic_faults (everywhere m) t) f → In (faults m) f
topic_within m t f c h =
    let names : List Fault = twice_in (map (λ t. t.name) m.topics) in
    let topics : List Fault = flat_map (topic_faults (everywhere m)) m.topics in
    in_after (domains_faults (outside (everywhere m))) (names ++ topics) f
    (in_after names topics f
    (in_each (topic_faults (everywhere m)) m.topics t f (in_contained m.topics t c) h))

scope_within : (m : ModelSyntax) (s : Scope) (f : Fault) → IsScope m s → In (domains_faults s) f
    → In (faults m) f
scope_within m _ f (of_model s e) h =
    in_before (domains_faults (outside (everywhere m)))
    (twice_in (map (λ t. t.name) m.topics) ++ flat_map (topic_faults (everywhere m)) m.topics) f
    (subst (λ (x : Scope). In (domains_faults x) f) e h)
scope_within m _ f (of_topic s t c e) h =
    topic_within m t f c
    (in_before (domains_faults (inside (everywhere m) t))
    (tables_faults (inside (everywhere m) t) t.tables) f
    (subst (λ (x : Scope). In (domains_faults x) f) e h))

tables_within : (m : ModelSyntax) (t : TopicSyntax) (f : Fault) → Contains m.topics t
    → In (tables_faults (inside (everywhere m) t) t.tables) f → In (faults m) f
tables_within m t f c h =
    topic_within m t f c
    (in_after (domains_faults (inside (everywhere m) t))
    (tables_faults (inside (everywhere m) t) t.tables) f h)

attribute_within : (s : Scope) (as_ : Attributes) (a : AttributeSyntax) (f : Fault)
    → HasAttribute as_ a → In (attribute_faults s a) f → In (attributes_faults s as_) f
attribute_within s no_attributes a f k h = absurd k
attribute_within s (and_attribute b as_) a f (inl e) h =
    in_before (attribute_faults s b) (attributes_faults s as_) f
    (subst (λ (x : AttributeSyntax). In (attribute_faults s x) f) (sym e) h)
attribute_within s (and_attribute b as_) a f (inr k) h =
    in_after (attribute_faults s b) (attributes_faults s as_) f (attribute_within s as_ a f k h)

line_in_type : (s : Scope) (owner : Ident) (shape : Shape) (l : LineSyntax) (f : Fault)
    → In (line_faults s owner shape l) f → In (type_faults s owner (line_type shape l)) f
line_in_type s owner shapes.Polyline l f h = h
line_in_type s owner shapes.Surface l f h = h
line_in_type s owner shapes.Area l f h = h

-- the names and the types of the attributes of a line
in_line : (s : Scope) (owner : Ident) (shape : Shape) (head : LineHead) (as_ : Attributes)
    (lists : List (List Ident)) (f : Fault)
    → In (names_faults as_ lists) f ⊎ In (attributes_faults s as_) f
    → In (line_faults s owner shape (a_line head as_ lists)) f
in_line s owner shape head as_ lists f h =
    let lines : List Fault = line_attribute_faults s as_ in
    in_after (vertex_faults s owner shape head.vertex head.overlap)
    (names_faults as_ lists ++ (lines ++ attributes_faults s as_)) f (by_part h)
  where
    by_part : In (names_faults as_ lists) f ⊎ In (attributes_faults s as_) f
        → In (names_faults as_ lists ++ (line_attribute_faults s as_ ++ attributes_faults s as_)) f
    by_part (inl a) =
        in_before (names_faults as_ lists)
        (line_attribute_faults s as_ ++ attributes_faults s as_) f a
    by_part (inr b) =
        in_after (names_faults as_ lists) (line_attribute_faults s as_ ++ attributes_faults s as_) f
        (in_after (line_attribute_faults s as_) (attributes_faults s as_) f b)

in_table : (s : Scope) (x : TableSyntax) (f : Fault)
    → In (names_faults x.attributes x.idents) f ⊎ In (attributes_faults s x.attributes) f
    → In (table_faults s x) f
in_table s x f (inl a) =
    in_before (names_faults x.attributes x.idents) (attributes_faults s x.attributes) f a
in_table s x f (inr b) =
    in_after (names_faults x.attributes x.idents) (attributes_faults s x.attributes) f b

mutual
  type_within : (m : ModelSyntax) (s : Scope) (owner : Ident) (t : TypeSyntax) (f : Fault)
      → HasType m s owner t → In (type_faults s owner t) f → In (faults m) f
  type_within m _ _ _ f (of_domain s d is c) h =
      let types : List Fault = flat_map (domain_faults s) s.own in
      scope_within m s f is
      (in_after (twice (names_of s.above) (map entry (domain_names s.own)))
      (cycle_faults (leads s) 0 s.own ++ types) f
      (in_after (cycle_faults (leads s) 0 s.own) types f
      (in_each (domain_faults s) s.own d f (in_contained s.own d c) h)))
  type_within m _ _ _ f (of_attribute s as_ lists n o t has k) h =
      attributes_within m s as_ lists f has
      (inr (attribute_within s as_ (an_attribute n o (Value t)) f k h))

  attributes_within : (m : ModelSyntax) (s : Scope) (as_ : Attributes) (lists : List (List Ident))
      (f : Fault)
      → HasAttributes m s as_ lists
      → In (names_faults as_ lists) f ⊎ In (attributes_faults s as_) f → In (faults m) f
  attributes_within m _ _ _ f (of_table t x c k) h =
      let s : Scope = inside (everywhere m) t in
      tables_within m t f c
      (in_after (twice [] (flat_map (table_entries s) t.tables))
      (flat_map (table_faults s) t.tables) f
      (in_each (table_faults s) t.tables x f (in_contained t.tables x k) (in_table s x f h)))
  attributes_within m _ _ _ f (of_line s owner shape head as_ lists has) h =
      type_within m s owner (line_type shape (a_line head as_ lists)) f has
      (line_in_type s owner shape (a_line head as_ lists) f
      (in_line s owner shape head as_ lists f h))

line_within : (m : ModelSyntax) (s : Scope) (owner : Ident) (shape : Shape) (l : LineSyntax)
    (f : Fault)
    → HasType m s owner (line_type shape l) → In (line_faults s owner shape l) f → In (faults m) f
line_within m s owner shape l f has h =
    type_within m s owner (line_type shape l) f has (line_in_type s owner shape l f h)

element_within : (es : Elements) (e : Element) (f : Fault) → HasElement es e
    → In (element_faults e) f → In (parts_faults es) f
element_within no_elements e f k h = absurd k
element_within (and_element d es) e f (inl q) h =
    in_before (element_faults d) (parts_faults es) f
    (subst (λ (x : Element). In (element_faults x) f) (sym q) h)
element_within (and_element d es) e f (inr k) h =
    in_after (element_faults d) (parts_faults es) f (element_within es e f k h)

elements_within : (m : ModelSyntax) (es : Elements) (f : Fault) → HasElements m es
    → In (twice_in (element_names es) ++ parts_faults es) f → In (faults m) f
elements_within m _ f (of_type s owner es has) h = type_within m s owner (Enumeration es) f has h
elements_within m _ f (of_element n parts es has k) h =
    elements_within m es f has
    (in_after (twice_in (element_names es)) (parts_faults es) f
    (element_within es (an_element n parts) f k h))

-- ---- the scope of what is written
mutual
  pub type_scope : (m : ModelSyntax) (s : Scope) (owner : Ident) (t : TypeSyntax)
      → HasType m s owner t → IsScope m s
  type_scope m _ _ _ (of_domain s d is c) = is
  type_scope m _ _ _ (of_attribute s as_ lists n o t has k) = attributes_scope m s as_ lists has

  attributes_scope : (m : ModelSyntax) (s : Scope) (as_ : Attributes) (lists : List (List Ident))
      → HasAttributes m s as_ lists → IsScope m s
  attributes_scope m _ _ _ (of_table t x c k) = of_topic (inside (everywhere m) t) t c refl
  attributes_scope m _ _ _ (of_line s owner shape head as_ lists has) =
      type_scope m s owner (line_type shape (a_line head as_ lists)) has

-- ---- vertices and attributes of lines
vertex_within : (m : ModelSyntax) (s : Scope) (owner : Ident) (shape : Shape) (head : LineHead)
    (f : Fault)
    → HasLine m s owner shape head → In (vertex_faults s owner shape head.vertex head.overlap) f
    → In (faults m) f
vertex_within m s owner shape head f line h =
    let as_ : Attributes = line.attributes in
    line_within m s owner shape (a_line head as_ line.lists) f line.written
    (in_before (vertex_faults s owner shape head.vertex head.overlap)
    (names_faults as_ line.lists ++ (line_attribute_faults s as_ ++ attributes_faults s as_)) f
    h)

line_scope : (m : ModelSyntax) (s : Scope) (owner : Ident) (shape : Shape) (head : LineHead)
    → HasLine m s owner shape head → IsScope m s
line_scope m s owner shape head line =
    type_scope m s owner (line_type shape (a_line head line.attributes line.lists)) line.written

kind_within : (m : ModelSyntax) (s : Scope) (owner : Ident) (shape : Shape) (head : LineHead)
    (v : Meaning) (f : Fault)
    → HasLine m s owner shape head → ((x : Scope) → IsScope m x → AreShort x)
    → StandsFor v s (Named head.vertex)
    → In (kind_faults owner shape head.vertex head.overlap v.kind) f → In (faults m) f
kind_within m s owner shape head v f line short means h =
    let found : meaning s head.vertex.text
    ≡ Some v = stands_meant v s (Named head.vertex) means
    (short s (line_scope m s owner shape head line)) in
    let told : In (meaning_faults owner shape head.vertex head.overlap (meaning s head.vertex.text))
    f = subst (λ (o : Option Meaning). In
    (meaning_faults owner shape head.vertex head.overlap o) f) (sym found) h in
    vertex_within m s owner shape head f line
    (in_after (type_name_faults s head.vertex)
    (meaning_faults owner shape head.vertex head.overlap (meaning s head.vertex.text)) f told)

in_kind : (owner : Ident) (shape : Shape) (vertex : Ident) (overlap : Option Decimal)
    (kind : TypeSyntax) (f : Fault)
    → In (fault_if (not (suits shape kind)) code.NotCoord vertex) f
    ⊎ In (fault_if (is_area shape && is_wide kind) code.Wide vertex) f
    → In (kind_faults owner shape vertex overlap kind) f
in_kind owner shape vertex overlap kind f h =
    in_after (fault_if (is_long_overlap overlap kind) code.Decimals owner)
    (fault_if (not (suits shape kind)) code.NotCoord vertex
    ++ fault_if (is_area shape && is_wide kind) code.Wide vertex) f (by_part h)
  where
    by_part : In (fault_if (not (suits shape kind)) code.NotCoord vertex) f
        ⊎ In (fault_if (is_area shape && is_wide kind) code.Wide vertex) f
        → In (fault_if (not (suits shape kind)) code.NotCoord vertex
        ++ fault_if (is_area shape && is_wide kind) code.Wide vertex) f
    by_part (inl a) =
        in_before (fault_if (not (suits shape kind)) code.NotCoord vertex)
        (fault_if (is_area shape && is_wide kind) code.Wide vertex) f a
    by_part (inr b) =
        in_after (fault_if (not (suits shape kind)) code.NotCoord vertex)
        (fault_if (is_area shape && is_wide kind) code.Wide vertex) f b

overlap_told : (overlap : Option Decimal) (kind : TypeSyntax) (d : Decimal) → overlap ≡ Some d
    → is_coord kind ≡ true → is_long (scale_of kind) d ≡ true → is_long_overlap overlap kind ≡ true
overlap_told overlap kind d e c l =
    ap (λ (b : Bool). b && option_map_or (is_long (scale_of kind)) overlap false) c
    ∙ ap (λ (o : Option Decimal). option_map_or (is_long (scale_of kind)) o false) e ∙ l

line_attribute_within : (s : Scope) (as_ : Attributes) (n : Ident) (o : Bool) (c : Content)
    → HasAttribute as_ (an_attribute n o c) → stands_for is_line s c ≡ true
    → In (line_attribute_faults s as_) (at code.LineAttr n)
line_attribute_within s no_attributes n o c k e = absurd k
line_attribute_within s (and_attribute b as_) n o c (inl q) e =
    in_before (line_attribute_fault s b) (line_attribute_faults s as_) (at code.LineAttr n)
    (subst (λ (x : AttributeSyntax). In (line_attribute_fault s x) (at code.LineAttr n)) (sym q)
    (in_if (stands_for is_line s c) code.LineAttr n e))
line_attribute_within s (and_attribute b as_) n o c (inr k) e =
    in_after (line_attribute_fault s b) (line_attribute_faults s as_) (at code.LineAttr n)
    (line_attribute_within s as_ n o c k e)

-- ---- references
reference_within : (m : ModelSyntax) (s : Scope) (n : Ident) (v : Bool) → HasReference m s n
    → (Contains s.tables n.text → ⊥) → is_visible s n.text ≡ v
    → In (faults m) (at (cond v code.NotTable code.Unknown) n)
reference_within m s n v r out q =
    let f : Fault = at (cond v code.NotTable code.Unknown) n in
    let free : is_among n.text s.tables
    ≡ false = not_among n.text s.tables (λ h. out (contains s.tables n.text h)) in
    let told : In (reference_faults s n) f = subst
    (λ (b : Bool). In
    (cond b [] (fault_if true (cond (is_visible s n.text) code.NotTable code.Unknown) n)) f)
    (sym free) (inl (ap (λ (b : Bool). at (cond b code.NotTable code.Unknown) n) q)) in
    attributes_within m s r.attributes r.lists f r.within
    (inr (attribute_within s r.attributes
    (an_attribute r.owner r.optional (Reference n)) f r.written told))

-- ---- IDENT lists
list_within : (m : ModelSyntax) (s : Scope) (as_ : Attributes) (lists : List (List Ident))
    (l : List Ident) (f : Fault)
    → HasAttributes m s as_ lists → Contains lists l
    → In (list_faults (texts (attribute_names as_)) l) f → In (faults m) f
list_within m s as_ lists l f has c h =
    let names : List (List ℕ) = texts (attribute_names as_) in
    attributes_within m s as_ lists f has
    (inl (in_after (twice_in (attribute_names as_)) (lists_faults names lists) f
    (in_each (list_faults names) lists l f (in_contained lists l c) h)))

-- ---- numbers
numbers_in_type : (s : Scope) (owner : Ident) (t : TypeSyntax) (b : Span) (f : Fault)
    → In (spans t) b → In (numbers_faults owner t) f → In (type_faults s owner t) f
numbers_in_type s owner (Coord2 p) b f i h = h
numbers_in_type s owner (Coord3 p) b f i h = h
numbers_in_type s owner (Dim1 p) b f i h = h
numbers_in_type s owner (Dim2 p) b f i h = h
numbers_in_type s owner (Radians p) b f i h = h
numbers_in_type s owner (Grads p) b f i h = h
numbers_in_type s owner (Degrees p) b f i h = h
numbers_in_type s owner (Range p) b f i h = h
numbers_in_type s owner (Named n) b f i h = absurd i
numbers_in_type s owner (Text d) b f i h = absurd i
numbers_in_type s owner Date b f i h = absurd i
numbers_in_type s owner HAlignment b f i h = absurd i
numbers_in_type s owner VAlignment b f i h = absurd i
numbers_in_type s owner (Enumeration es) b f i h = absurd i
numbers_in_type s owner (Polyline l) b f i h = absurd i
numbers_in_type s owner (Surface l) b f i h = absurd i
numbers_in_type s owner (Area l) b f i h = absurd i

numbers_within : (m : ModelSyntax) (s : Scope) (owner : Ident) (t : TypeSyntax) (b : Span)
    (f : Fault)
    → HasType m s owner t → In (spans t) b
    → In (fault_if (list_any (is_reversed (scale_of t)) (spans t)) code.Bounds owner) f
    ⊎ In (fault_if (list_any (has_long_bound (scale_of t)) (spans t)) code.Decimals owner) f
    → In (faults m) f
numbers_within m s owner t b f has i h =
    type_within m s owner t f has (numbers_in_type s owner t b f i (by_part h))
  where
    by_part : In (fault_if (list_any (is_reversed (scale_of t)) (spans t)) code.Bounds owner) f
        ⊎ In (fault_if (list_any (has_long_bound (scale_of t)) (spans t)) code.Decimals owner) f
        → In (numbers_faults owner t) f
    by_part (inl x) =
        in_before (fault_if (list_any (is_reversed (scale_of t)) (spans t)) code.Bounds owner)
        (fault_if (list_any (has_long_bound (scale_of t)) (spans t)) code.Decimals owner) f x
    by_part (inr y) =
        in_after (fault_if (list_any (is_reversed (scale_of t)) (spans t)) code.Bounds owner)
        (fault_if (list_any (has_long_bound (scale_of t)) (spans t)) code.Decimals owner) f y

-- ---- all rules
pub broken_listed : (m : ModelSyntax) (c : ModelCode) (n : Ident)
    → ((s : Scope) → IsScope m s → AreShort s) → Breaks m c n → In (faults m) (at c n)
broken_listed m _ _ short (unknown_type s owner n has out) =
    type_within m s owner (Named n) (at code.Unknown n) has
    (in_if (not (is_visible s n.text)) code.Unknown n
    (not_is (is_visible s n.text) (is_unseen s n.text out)))
broken_listed m _ _ short (unknown_vertex s owner shape head line out) =
    let f : Fault = at code.Unknown head.vertex in
    vertex_within m s owner shape head f line
    (in_before (type_name_faults s head.vertex)
    (meaning_faults owner shape head.vertex head.overlap (meaning s head.vertex.text)) f
    (in_if (not (is_visible s head.vertex.text)) code.Unknown head.vertex
    (not_is (is_visible s head.vertex.text) (is_unseen s head.vertex.text out))))
broken_listed m _ _ short (unknown_reference s n r out unseen) =
    reference_within m s n false r out (is_unseen s n.text unseen)
broken_listed m _ _ short (not_table s n r out seen) =
    reference_within m s n true r out (is_seen s n.text seen)
broken_listed m _ _ short (domain_twice s n is w) =
    let f : Fault = at code.Twice n in
    scope_within m s f is
    (in_before (twice (names_of s.above) (map entry (domain_names s.own)))
    (cycle_faults (leads s) 0 s.own ++ flat_map (domain_faults s) s.own) f
    (again_told (names_of s.above) (map entry (domain_names s.own)) n w))
broken_listed m _ _ short (topic_twice n w) =
    let f : Fault = at code.Twice n in
    let names : List Fault = twice_in (map (λ t. t.name) m.topics) in
    let topics : List Fault = flat_map (topic_faults (everywhere m)) m.topics in
    in_after (domains_faults (outside (everywhere m))) (names ++ topics) f
    (in_before names topics f (again_told [] (map entry (map (λ t. t.name) m.topics)) n w))
broken_listed m _ _ short (table_twice t names n c are w) =
    let s : Scope = inside (everywhere m) t in
    let f : Fault = at code.Twice n in
    let same_names : names ≡ flat_map (table_entries s) t.tables = tables_one s t.tables names
    (short s (of_topic s t c refl)) are in
    tables_within m t f c
    (in_before (twice [] (flat_map (table_entries s) t.tables))
    (flat_map (table_faults s) t.tables) f
    (subst (λ (l : List Entry). In (twice [] l) f) same_names (again_told [] names n w)))
broken_listed m _ _ short (attribute_twice s as_ lists n has w) =
    let f : Fault = at code.Twice n in
    attributes_within m s as_ lists f has
    (inl (in_before (twice_in (attribute_names as_))
    (lists_faults (texts (attribute_names as_)) lists) f
    (again_told [] (map entry (attribute_names as_)) n w)))
broken_listed m _ _ short (element_twice es n has w) =
    let f : Fault = at code.Twice n in
    elements_within m es f has
    (in_before (twice_in (element_names es)) (parts_faults es) f
    (again_told [] (map entry (element_names es)) n w))
broken_listed m _ _ short (ident_twice s as_ lists l n has c w) =
    let f : Fault = at code.Twice n in
    list_within m s as_ lists l f has c
    (in_before (twice_in l) (flat_map (rules.no_attribute (texts (attribute_names as_))) l) f
    (again_told [] (map entry l) n w))
broken_listed m _ _ short (cycle s i d is at_ h) =
    let f : Fault = at code.Cycle d.name in
    let short_scope : AreShort s = short s is in
    let same : 0 + i ≡ i = omega arith in
    let back : comes_to (leads s) (0 + i) longest (0 + i)
    ≡ true = ap (λ (k : ℕ). comes_to (leads s) k longest k) same
    ∙ back_comes s i short_scope.own (item_below s.own i d at_) h in
    scope_within m s f is
    (in_after (twice (names_of s.above) (map entry (domain_names s.own)))
    (cycle_faults (leads s) 0 s.own ++ flat_map (domain_faults s) s.own) f
    (in_before (cycle_faults (leads s) 0 s.own) (flat_map (domain_faults s) s.own) f
    (in_cycles (leads s) 0 i s.own d at_ back)))
broken_listed m _ _ short (reversed s owner t b has c r) =
    let i : In (spans t) b = in_contained (spans t) b c in
    numbers_within m s owner t b (at code.Bounds owner) has i
    (inl (in_if (list_any (is_reversed (scale_of t)) (spans t)) code.Bounds owner
    (in_any (is_reversed (scale_of t)) (spans t) b i (are_reversed (scale_of t) b r))))
broken_listed m _ _ short (no_length s owner d has none) =
    type_within m s owner (Text d) (at code.Bounds owner) has
    (in_if (not (is_text_length d)) code.Bounds owner
    (not_is (is_text_length d) (is_no_length d none)))
broken_listed m _ _ short (long_bound s owner t b has c l) =
    let i : In (spans t) b = in_contained (spans t) b c in
    numbers_within m s owner t b (at code.Decimals owner) has i
    (inr (in_if (list_any (has_long_bound (scale_of t)) (spans t)) code.Decimals owner
    (in_any (has_long_bound (scale_of t)) (spans t) b i (are_long_bounds (scale_of t) b l))))
broken_listed m _ _ short (long_overlap s owner shape head d v line e means coord l) =
    let f : Fault = at code.Decimals owner in
    kind_within m s owner shape head v f line short means
    (in_before (fault_if (is_long_overlap head.overlap v.kind) code.Decimals owner)
    (fault_if (not (suits shape v.kind)) code.NotCoord head.vertex
    ++ fault_if (is_area shape && is_wide v.kind) code.Wide head.vertex) f
    (in_if (is_long_overlap head.overlap v.kind) code.Decimals owner
    (overlap_told head.overlap v.kind d e coord (is_long_number (scale_of v.kind) d l))))
broken_listed m _ _ short (unsuited s owner shape head v line means e) =
    let f : Fault = at code.NotCoord head.vertex in
    kind_within m s owner shape head v f line short means
    (in_kind owner shape head.vertex head.overlap v.kind f
    (inl (in_if (not (suits shape v.kind)) code.NotCoord head.vertex
    (not_is (suits shape v.kind) e))))
broken_listed m _ _ short (wide s owner head v line means e) =
    let f : Fault = at code.Wide head.vertex in
    kind_within m s owner shapes.Area head v f line short means
    (in_kind owner shapes.Area head.vertex head.overlap v.kind f
    (inr (in_if (is_wide v.kind) code.Wide head.vertex e)))
broken_listed m _ _ short (line_attribute s owner shape head as_ lists n o c has k means) =
    let f : Fault = at code.LineAttr n in
    line_within m s owner shape (a_line head as_ lists) f has
    (in_after (vertex_faults s owner shape head.vertex head.overlap)
    (names_faults as_ lists ++ (line_attribute_faults s as_ ++ attributes_faults s as_)) f
    (in_after (names_faults as_ lists) (line_attribute_faults s as_ ++ attributes_faults s as_) f
    (in_before (line_attribute_faults s as_) (attributes_faults s as_) f
    (line_attribute_within s as_ n o c k
    (means_test is_line s c
    (short s (type_scope m s owner (line_type shape (a_line head as_ lists)) has)) means)))))
broken_listed m _ _ short (no_attribute s as_ lists l n has c i out) =
    let names : List (List ℕ) = texts (attribute_names as_) in
    let f : Fault = at code.IdentUnknown n in
    list_within m s as_ lists l f has c
    (in_after (twice_in l) (flat_map (rules.no_attribute names) l) f
    (in_each (rules.no_attribute names) l n f (in_contained l n i)
    (in_if (not (is_among n.text names)) code.IdentUnknown n
    (not_is (is_among n.text names)
    (not_among n.text names (λ h. out (contains names n.text h)))))))
