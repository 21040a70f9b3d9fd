-- Each fault of the list is a rule that is broken.
use Rattle.std.proofs.Common.{◌≡◌, ℕ, ◌+◌, inl, inr, Bool, true, false, cond, not, ◌&&◌, List, []}
use Rattle.std.proofs.Common.{◌++◌, map, Option, Some, None, refl, ap, sym, ◌∙◌, subst, arith}
use Rattle.std.proofs.Common.{true≢false}
use Rattle.std.specs.Prelude.{Contains}
use Rattle.std.specs.List.{list_any, flat_map}
use Rattle.std.specs.Option.{option_map_or}
use Rattle.ili_grammar.specs.Syntax.{Ident, Decimal, Element, an_element, Elements, no_elements}
use Rattle.ili_grammar.specs.Syntax.{and_element, TypeSyntax, Named, Coord2, Coord3, Dim1, Dim2}
use Rattle.ili_grammar.specs.Syntax.{Radians, Grads, Degrees, Range, Text, Date, HAlignment}
use Rattle.ili_grammar.specs.Syntax.{VAlignment, Enumeration, Polyline, Surface, Area, LineHead}
use Rattle.ili_grammar.specs.Syntax.{LineSyntax, a_line, Attributes, no_attributes, and_attribute}
use Rattle.ili_grammar.specs.Syntax.{AttributeSyntax, an_attribute, Content, Value, Reference}
use Rattle.ili_grammar.specs.Syntax.{TableSyntax, TopicSyntax, ModelSyntax}
use Rattle.resolver.specs.declared.faults.ModelCode.{ModelCode}
use Rattle.resolver.specs.declared.faults.ModelCode.TheVariants as code
use Rattle.resolver.specs.declared.shape.Shape.{Shape}
use Rattle.resolver.specs.declared.shape.Shape.TheVariants as shapes
use Rattle.resolver.specs.Faults.{Fault, fault_if}
use Rattle.resolver.specs.Numbers.{spans, scale_of, is_reversed, has_long_bound, is_wide, is_long}
use Rattle.resolver.specs.Numbers.{is_text_length}
use Rattle.resolver.specs.Lines.{is_area, suits, is_coord, is_long_overlap, is_line, stands_for}
use Rattle.resolver.specs.Rules.{Entry, entry, twice, twice_in, element_names, parts_faults}
use Rattle.resolver.specs.Rules.{element_faults, numbers_faults, type_name_faults, reference_faults}
use Rattle.resolver.specs.Rules.{kind_faults, meaning_faults, vertex_faults, attribute_names}
use Rattle.resolver.specs.Rules.{list_faults, lists_faults, names_faults, line_attribute_fault}
use Rattle.resolver.specs.Rules.{line_attribute_faults, type_faults, line_faults, attributes_faults}
use Rattle.resolver.specs.Rules.{attribute_faults, content_faults, cycle_faults, domain_faults}
use Rattle.resolver.specs.Rules.{domains_faults, table_entries, table_faults, tables_faults}
use Rattle.resolver.specs.Rules.{topic_faults, faults}
use Rattle.resolver.specs.Rules as rules
use Rattle.resolver.specs.Scopes.{Scope, Meaning, texts, is_among, is_visible, names_of}
use Rattle.resolver.specs.Scopes.{domain_names, leads, comes_to, longest, meaning, everywhere}
use Rattle.resolver.specs.Scopes.{outside, inside}
use Rattle.resolver.specs.Standing.{StandsFor}
use Rattle.resolver.specs.Occurring.{IsScope, of_model, of_topic, HasType, of_domain, of_attribute}
use Rattle.resolver.specs.Occurring.{HasAttributes, of_table, of_line, HasAttribute, HasLine}
use Rattle.resolver.specs.Occurring.{HasElement, HasElements, of_type, of_element, line_type}
use Rattle.resolver.specs.Breaking.{Breaks, StandsAgain, unknown_type, unknown_vertex}
use Rattle.resolver.specs.Breaking.{unknown_reference, not_table, domain_twice, topic_twice}
use Rattle.resolver.specs.Breaking.{table_twice, attribute_twice, element_twice, ident_twice, cycle}
use Rattle.resolver.specs.Breaking.{reversed, no_length, long_bound, long_overlap, unsuited, wide}
use Rattle.resolver.specs.Breaking.{line_attribute, no_attribute}
use Rattle.resolver.proofs.ListLemmas.Members.{In, in_contained, contains, in_either, in_some}
use Rattle.resolver.proofs.ListLemmas.Members.{any_in, not_in}
use Rattle.resolver.proofs.RuleLemmas.Meant.{AreShort, meaning_stands, test_means, comes_leads}
use Rattle.resolver.proofs.RuleLemmas.FaultParts.{is_if, is_not, seen, unseen, told_again, is_cycle}
use Rattle.resolver.proofs.RuleLemmas.FaultParts.{tables_are, long_number, long_bounds}
use Rattle.resolver.proofs.RuleLemmas.FaultParts.{reversed_bounds}
use Rattle.resolver.proofs.RuleLemmas.FaultParts.{no_length_found}

abbrev pub Broken : ModelSyntax → Fault → Type 0
Broken m f = Breaks m f.code f.name

-- ---- one rule
if_broken : (m : ModelSyntax) (b : Bool) (c : ModelCode) (n : Ident) (f : Fault)
    → In (fault_if b c n) f → (b ≡ true → Breaks m c n) → Broken m f
if_broken m b c n f h broken = let w = is_if b c n f h in subst (Broken m) w.1 (broken w.0)

repeated : (m : ModelSyntax) (earlier : List (List ℕ)) (names : List Entry) (f : Fault)
    → In (twice earlier names) f
    → ((n : Ident) → StandsAgain earlier names n → Breaks m code.Twice n) → Broken m f
repeated m earlier names f h broken =
    let w = told_again earlier names f h in
    subst (λ (c : ModelCode). Breaks m c f.name) (sym w.0) (broken f.name w.1)

-- ---- names of attributes and IDENT lists
list_broken : (m : ModelSyntax) (s : Scope) (as_ : Attributes) (lists : List (List Ident))
    (l : List Ident) (f : Fault)
    → HasAttributes m s as_ lists → Contains lists l
    → In (list_faults (texts (attribute_names as_)) l) f → Broken m f
list_broken m s as_ lists l f has listed h =
    elim (in_either (twice_in l) (flat_map (rules.no_attribute (texts (attribute_names as_))) l) f
    h) as (λ _. Broken m f) [
      | inl a ↦ repeated m [] (map entry l) f a (λ n w. ident_twice s as_ lists l n has listed w)
      | inr b ↦
          let w = in_some (rules.no_attribute (texts (attribute_names as_))) l f b in
          if_broken m (not (is_among w.0.text (texts (attribute_names as_)))) code.IdentUnknown w.0
          f w.2
          (λ e. no_attribute s as_ lists l w.0 has listed (contains l w.0 w.1)
          (λ c. not_in w.0.text (texts (attribute_names as_))
          (is_not (is_among w.0.text (texts (attribute_names as_))) e)
          (in_contained (texts (attribute_names as_)) w.0.text c)))
    ]

names_broken : (m : ModelSyntax) (s : Scope) (as_ : Attributes) (lists : List (List Ident))
    (f : Fault)
    → HasAttributes m s as_ lists → In (names_faults as_ lists) f → Broken m f
names_broken m s as_ lists f has h =
    elim (in_either (twice_in (attribute_names as_))
    (lists_faults (texts (attribute_names as_)) lists) f h) as (λ _. Broken m f) [
      | inl a ↦ repeated m [] (map entry (attribute_names as_)) f a
          (λ n w. attribute_twice s as_ lists n has w)
      | inr b ↦ let w = in_some (list_faults (texts (attribute_names as_))) lists f b in
          list_broken m s as_ lists w.0 f has (contains lists w.0 w.1) w.2
    ]

-- ---- enumerations
mutual
  parts_broken : (m : ModelSyntax) (whole es : Elements) (f : Fault) → HasElements m whole
      → ((e : Element) → HasElement es e → HasElement whole e) → In (parts_faults es) f → Broken m f
  parts_broken m whole no_elements f has sub h = absurd h
  parts_broken m whole (and_element e es) f has sub h =
      elim (in_either (element_faults e) (parts_faults es) f h) as (λ _. Broken m f) [
        | inl a ↦ element_broken m whole e f has (sub e (inl refl)) a
        | inr b ↦ parts_broken m whole es f has (λ d k. sub d (inr k)) b
      ]

  element_broken : (m : ModelSyntax) (whole : Elements) (e : Element) (f : Fault)
      → HasElements m whole → HasElement whole e → In (element_faults e) f → Broken m f
  element_broken m whole (an_element n parts) f has k h =
      elim (in_either (twice_in (element_names parts)) (parts_faults parts) f h) as
      (λ _. Broken m f) [
        | inl a ↦ repeated m [] (map entry (element_names parts)) f a
            (λ x w. element_twice parts x (of_element n parts whole has k) w)
        | inr b ↦ parts_broken m parts parts f (of_element n parts whole has k) (λ d i. i) b
      ]

-- ---- numbers
numbers_broken : (m : ModelSyntax) (s : Scope) (owner : Ident) (t : TypeSyntax) (f : Fault)
    → HasType m s owner t → In (numbers_faults owner t) f → Broken m f
numbers_broken m s owner t f has h =
    elim (in_either (fault_if (list_any (is_reversed (scale_of t)) (spans t)) code.Bounds owner)
    (fault_if (list_any (has_long_bound (scale_of t)) (spans t)) code.Decimals owner) f h) as
    (λ _. Broken m f) [
      | inl a ↦ if_broken m (list_any (is_reversed (scale_of t)) (spans t)) code.Bounds owner f a
          (λ e. let w = any_in (is_reversed (scale_of t)) (spans t) e in
          reversed s owner t w.0 has (contains (spans t) w.0 w.1)
          (reversed_bounds (scale_of t) w.0 w.2))
      | inr b ↦ if_broken m (list_any (has_long_bound (scale_of t)) (spans t)) code.Decimals owner f
          b
          (λ e. let w = any_in (has_long_bound (scale_of t)) (spans t) e in
          long_bound s owner t w.0 has (contains (spans t) w.0 w.1)
          (long_bounds (scale_of t) w.0 w.2))
    ]

-- ---- references
reference_broken : (m : ModelSyntax) (s : Scope) (as_ : Attributes) (lists : List (List Ident))
    (owner : Ident) (o : Bool) (n : Ident) (f : Fault)
    → HasAttributes m s as_ lists → HasAttribute as_ (an_attribute owner o (Reference n))
    → In (reference_faults s n) f → Broken m f
reference_broken m s as_ lists owner o n f has k h = by_table (is_among n.text s.tables) refl h
  where
    by_domain : is_among n.text s.tables ≡ false → (b : Bool) → is_visible s n.text ≡ b
        → In (fault_if true (cond b code.NotTable code.Unknown) n) f → Broken m f
    by_domain q true v h = if_broken m true code.NotTable n f h
        (λ e. not_table s n (record {
          attributes = as_;
          lists = lists;
          owner = owner;
          optional = o;
          within = has;
          written = k;
        }) (λ c. not_in n.text s.tables q (in_contained s.tables n.text c))
        (seen s n.text v))
    by_domain q false v h = if_broken m true code.Unknown n f h
        (λ e. unknown_reference s n (record {
          attributes = as_;
          lists = lists;
          owner = owner;
          optional = o;
          within = has;
          written = k;
        })
        (λ c. not_in n.text s.tables q (in_contained s.tables n.text c)) (unseen s n.text v))

    by_table : (b : Bool) → is_among n.text s.tables ≡ b
        → In (cond b [] (fault_if true (cond (is_visible s n.text) code.NotTable code.Unknown) n)) f
        → Broken m f
    by_table true q h = absurd h
    by_table false q h = by_domain q (is_visible s n.text) refl h

-- ---- vertices
overlap_broken : (overlap : Option Decimal) (kind : TypeSyntax)
    → is_long_overlap overlap kind ≡ true
    → (d : Decimal) × (overlap ≡ Some d) × (is_coord kind ≡ true)
    × (is_long (scale_of kind) d ≡ true)
overlap_broken overlap kind e = by_kind (is_coord kind) refl overlap refl e
  where
    by_kind : (b : Bool) → is_coord kind ≡ b → (o : Option Decimal) → overlap ≡ o
        → (b && option_map_or (is_long (scale_of kind)) o false) ≡ true
        → (d : Decimal) × (overlap ≡ Some d) × (is_coord kind ≡ true)
        × (is_long (scale_of kind) d ≡ true)
    by_kind false q o p h = absurd (true≢false (sym h))
    by_kind true q None p h = absurd (true≢false (sym h))
    by_kind true q (Some d) p h = (d, p, q, h)

kind_broken : (m : ModelSyntax) (s : Scope) (owner : Ident) (shape : Shape) (head : LineHead)
    (v : Meaning) (f : Fault)
    → HasLine m s owner shape head → StandsFor v s (Named head.vertex)
    → In (kind_faults owner shape head.vertex head.overlap v.kind) f → Broken m f
kind_broken m s owner shape head v f has means h =
    elim (in_either (fault_if (is_long_overlap head.overlap v.kind) code.Decimals owner)
    (fault_if (not (suits shape v.kind)) code.NotCoord head.vertex
    ++ fault_if (is_area shape && is_wide v.kind) code.Wide head.vertex) f h) as
    (λ _. Broken m f) [
      | inl a ↦ if_broken m (is_long_overlap head.overlap v.kind) code.Decimals owner f a
          (λ e. let w = overlap_broken head.overlap v.kind e in
          long_overlap s owner shape head w.0 v has w.1 means w.2
          (long_number (scale_of v.kind) w.0 w.3))
      | inr b ↦ elim (in_either (fault_if (not (suits shape v.kind)) code.NotCoord head.vertex)
          (fault_if (is_area shape && is_wide v.kind) code.Wide head.vertex) f b) as
          (λ _. Broken m f) [
            | inl c ↦ if_broken m (not (suits shape v.kind)) code.NotCoord head.vertex f c
                (λ e. unsuited s owner shape head v has means (is_not (suits shape v.kind) e))
            | inr c ↦ if_broken m (is_area shape && is_wide v.kind) code.Wide head.vertex f c
                (λ e. too_wide shape has e)
          ]
    ]
  where
    too_wide : (shape : Shape) → HasLine m s owner shape head
        → (is_area shape && is_wide v.kind) ≡ true → Breaks m code.Wide head.vertex
    too_wide shapes.Polyline has e = absurd (true≢false (sym e))
    too_wide shapes.Surface has e = absurd (true≢false (sym e))
    too_wide shapes.Area has e = wide s owner head v has means e

vertex_broken : (m : ModelSyntax) (s : Scope) (owner : Ident) (shape : Shape) (head : LineHead)
    (f : Fault)
    → HasLine m s owner shape head → In (vertex_faults s owner shape head.vertex head.overlap) f
    → Broken m f
vertex_broken m s owner shape head f has h =
    elim (in_either (type_name_faults s head.vertex)
    (meaning_faults owner shape head.vertex head.overlap (meaning s head.vertex.text)) f h) as
    (λ _. Broken m f) [
      | inl a ↦ if_broken m (not (is_visible s head.vertex.text)) code.Unknown head.vertex f a
          (λ e. unknown_vertex s owner shape head has
          (unseen s head.vertex.text (is_not (is_visible s head.vertex.text) e)))
      | inr b ↦ by_meaning (meaning s head.vertex.text) refl b
    ]
  where
    by_meaning : (o : Option Meaning) → meaning s head.vertex.text ≡ o
        → In (meaning_faults owner shape head.vertex head.overlap o) f → Broken m f
    by_meaning None q h = absurd h
    by_meaning (Some v) q h =
        kind_broken m s owner shape head v f has
        (meaning_stands v s head.vertex.text q head.vertex (Named head.vertex) refl refl) h

-- ---- attributes of a line that are lines
line_attributes_broken : (m : ModelSyntax) (s : Scope) (owner : Ident) (shape : Shape)
    (head : LineHead) (whole : Attributes) (lists : List (List Ident)) (as_ : Attributes)
    (f : Fault)
    → HasType m s owner (line_type shape (a_line head whole lists))
    → ((a : AttributeSyntax) → HasAttribute as_ a → HasAttribute whole a)
    → In (line_attribute_faults s as_) f → Broken m f
line_attributes_broken m s owner shape head whole lists no_attributes f has sub h = absurd h
line_attributes_broken m s owner shape head whole lists
    (and_attribute (an_attribute n o c) as_) f has sub h =
    elim (in_either (line_attribute_fault s (an_attribute n o c)) (line_attribute_faults s as_) f h)
    as (λ _. Broken m f) [
      | inl a ↦ if_broken m (stands_for is_line s c) code.LineAttr n f a
          (λ e. line_attribute s owner shape head whole lists n o c has
          (sub (an_attribute n o c) (inl refl)) (test_means is_line s c e))
      | inr b ↦ line_attributes_broken m s owner shape head whole lists as_ f has
          (λ x k. sub x (inr k)) b
    ]

-- ---- types
mutual
  type_broken : (m : ModelSyntax) (s : Scope) (owner : Ident) (t : TypeSyntax) (f : Fault)
      → HasType m s owner t → In (type_faults s owner t) f → Broken m f
  type_broken m s owner (Named n) f has h =
      if_broken m (not (is_visible s n.text)) code.Unknown n f h
      (λ e. unknown_type s owner n has (unseen s n.text (is_not (is_visible s n.text) e)))
  type_broken m s owner (Text d) f has h =
      if_broken m (not (is_text_length d)) code.Bounds owner f h
      (λ e. no_length s owner d has (no_length_found d (is_not (is_text_length d) e)))
  type_broken m s owner (Enumeration es) f has h =
      elim (in_either (twice_in (element_names es)) (parts_faults es) f h) as (λ _. Broken m f) [
        | inl a ↦ repeated m [] (map entry (element_names es)) f a
            (λ x w. element_twice es x (of_type s owner es has) w)
        | inr b ↦ parts_broken m es es f (of_type s owner es has) (λ d i. i) b
      ]
  type_broken m s owner (Polyline l) f has h = line_broken m s owner shapes.Polyline l f has h
  type_broken m s owner (Surface l) f has h = line_broken m s owner shapes.Surface l f has h
  type_broken m s owner (Area l) f has h = line_broken m s owner shapes.Area l f has h
  type_broken m s owner (Coord2 c) f has h = numbers_broken m s owner (Coord2 c) f has h
  type_broken m s owner (Coord3 c) f has h = numbers_broken m s owner (Coord3 c) f has h
  type_broken m s owner (Dim1 p) f has h = numbers_broken m s owner (Dim1 p) f has h
  type_broken m s owner (Dim2 p) f has h = numbers_broken m s owner (Dim2 p) f has h
  type_broken m s owner (Radians p) f has h = numbers_broken m s owner (Radians p) f has h
  type_broken m s owner (Grads p) f has h = numbers_broken m s owner (Grads p) f has h
  type_broken m s owner (Degrees p) f has h = numbers_broken m s owner (Degrees p) f has h
  type_broken m s owner (Range p) f has h = numbers_broken m s owner (Range p) f has h
  type_broken m s owner Date f has h = absurd h
  type_broken m s owner HAlignment f has h = absurd h
  type_broken m s owner VAlignment f has h = absurd h

  line_broken : (m : ModelSyntax) (s : Scope) (owner : Ident) (shape : Shape) (l : LineSyntax)
      (f : Fault)
      → HasType m s owner (line_type shape l) → In (line_faults s owner shape l) f → Broken m f
  line_broken m s owner shape (a_line head as_ lists) f has h =
      elim (in_either (vertex_faults s owner shape head.vertex head.overlap)
      (names_faults as_ lists ++ (line_attribute_faults s as_ ++ attributes_faults s as_)) f h)
      as (λ _. Broken m f) [
        | inl a ↦ vertex_broken m s owner shape head f (record {
          attributes = as_;
          lists = lists;
          written = has;
        }) a
        | inr b ↦ elim (in_either (names_faults as_ lists)
            (line_attribute_faults s as_ ++ attributes_faults s as_) f b) as (λ _. Broken m f) [
              | inl c ↦ names_broken m s as_ lists f (of_line s owner shape head as_ lists has) c
              | inr d ↦ elim (in_either (line_attribute_faults s as_) (attributes_faults s as_) f d) as
                  (λ _. Broken m f) [
                    | inl x ↦ line_attributes_broken m s owner shape head as_ lists as_ f has (λ a k. k) x
                    | inr y ↦ attributes_broken m s as_ lists as_ f
                        (of_line s owner shape head as_ lists has) (λ a k. k) y
                  ]
            ]
      ]

  attributes_broken : (m : ModelSyntax) (s : Scope) (whole : Attributes) (lists : List (List Ident))
      (as_ : Attributes) (f : Fault)
      → HasAttributes m s whole lists
      → ((a : AttributeSyntax) → HasAttribute as_ a → HasAttribute whole a)
      → In (attributes_faults s as_) f → Broken m f
  attributes_broken m s whole lists no_attributes f has sub h = absurd h
  attributes_broken m s whole lists (and_attribute a as_) f has sub h =
      elim (in_either (attribute_faults s a) (attributes_faults s as_) f h) as (λ _. Broken m f) [
        | inl x ↦ attribute_broken m s whole lists a f has (sub a (inl refl)) x
        | inr y ↦ attributes_broken m s whole lists as_ f has (λ b k. sub b (inr k)) y
      ]

  attribute_broken : (m : ModelSyntax) (s : Scope) (whole : Attributes) (lists : List (List Ident))
      (a : AttributeSyntax) (f : Fault)
      → HasAttributes m s whole lists → HasAttribute whole a → In (attribute_faults s a) f
      → Broken m f
  attribute_broken m s whole lists (an_attribute n o c) f has k h =
      content_broken m s whole lists n o c f has k h

  content_broken : (m : ModelSyntax) (s : Scope) (whole : Attributes) (lists : List (List Ident))
      (n : Ident) (o : Bool) (c : Content) (f : Fault)
      → HasAttributes m s whole lists → HasAttribute whole (an_attribute n o c)
      → In (content_faults s n c) f → Broken m f
  content_broken m s whole lists n o (Value t) f has k h =
      type_broken m s n t f (of_attribute s whole lists n o t has k) h
  content_broken m s whole lists n o (Reference r) f has k h =
      reference_broken m s whole lists n o r f has k h

-- ---- domains, tables and topics
domains_broken : (m : ModelSyntax) (s : Scope) (f : Fault) → IsScope m s → In (domains_faults s) f
    → Broken m f
domains_broken m s f is h =
    elim (in_either (twice (names_of s.above) (map entry (domain_names s.own)))
    (cycle_faults (leads s) 0 s.own ++ flat_map (domain_faults s) s.own) f h) as
    (λ _. Broken m f) [
      | inl a ↦ repeated m (names_of s.above) (map entry (domain_names s.own)) f a
          (λ n w. domain_twice s n is w)
      | inr b ↦ elim (in_either (cycle_faults (leads s) 0 s.own)
          (flat_map (domain_faults s) s.own) f b) as (λ _. Broken m f) [
            | inl c ↦
                let w = is_cycle (leads s) 0 s.own f c in
                let same : 0 + w.0 ≡ w.0 = omega arith in
                subst (Broken m) w.4
                (cycle s w.0 w.1 is w.2
                (comes_leads s w.0 longest w.0
                (ap (λ (i : ℕ). comes_to (leads s) i longest i) (sym same) ∙ w.3)))
            | inr d ↦ let w = in_some (domain_faults s) s.own f d in
                type_broken m s w.0.name w.0.kind f (of_domain s w.0 is (contains s.own w.0 w.1)) w.2
          ]
    ]

tables_broken : (m : ModelSyntax) (t : TopicSyntax) (f : Fault) → Contains m.topics t
    → AreShort (inside (everywhere m) t) → In (tables_faults (inside (everywhere m) t) t.tables) f
    → Broken m f
tables_broken m t f is short h =
    let s : Scope = inside (everywhere m) t in
    elim (in_either (twice [] (flat_map (table_entries s) t.tables))
    (flat_map (table_faults s) t.tables) f h) as (λ _. Broken m f) [
      | inl a ↦ repeated m [] (flat_map (table_entries s) t.tables) f a
          (λ n w. table_twice t (flat_map (table_entries s) t.tables) n is
          (tables_are s t.tables short) w)
      | inr b ↦
          let w = in_some (table_faults s) t.tables f b in
          let x : TableSyntax = w.0 in
          let has : HasAttributes m s x.attributes x.idents = of_table t x is
          (contains t.tables x w.1) in
          elim (in_either (names_faults x.attributes x.idents)
          (attributes_faults s x.attributes) f w.2) as (λ _. Broken m f) [
            | inl c ↦ names_broken m s x.attributes x.idents f has c
            | inr d ↦ attributes_broken m s x.attributes x.idents x.attributes f has (λ a k. k) d
          ]
    ]

pub listed_broken : (m : ModelSyntax) (f : Fault)
    → ((t : TopicSyntax) → Contains m.topics t → AreShort (inside (everywhere m) t))
    → In (faults m) f → Broken m f
listed_broken m f short h =
    let out : Scope = outside (everywhere m) in
    let names : List Fault = twice_in (map (λ t. t.name) m.topics) in
    let topics : List Fault = flat_map (topic_faults (everywhere m)) m.topics in
    elim (in_either (domains_faults out) (names ++ topics) f h) as (λ _. Broken m f) [
      | inl a ↦ domains_broken m out f (of_model out refl) a
      | inr b ↦ elim (in_either names topics f b) as (λ _. Broken m f) [
        | inl c ↦ repeated m [] (map entry (map (λ t. t.name) m.topics)) f c
            (λ n w. topic_twice n w)
        | inr d ↦
            let w = in_some (topic_faults (everywhere m)) m.topics f d in
            let s : Scope = inside (everywhere m) w.0 in
            let is : Contains m.topics w.0 = contains m.topics w.0 w.1 in
            elim (in_either (domains_faults s) (tables_faults s w.0.tables) f w.2) as
            (λ _. Broken m f) [
              | inl x ↦ domains_broken m s f (of_topic s w.0 is refl) x
              | inr y ↦ tables_broken m w.0 f is (short w.0 is) y
            ]
      ]
    ]
