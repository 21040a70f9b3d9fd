-- A rule is broken at a name that is written in the model.
use Rattle.std.proofs.Common.{◌≡◌, ℕ, inl, inr, List, [], ◌∷◌, ◌++◌, map, slice_get, Some, sym}
use Rattle.std.proofs.Common.{subst}
use Rattle.std.specs.Prelude.{Contains}
use Rattle.std.proofs.lemmas.Option.{slice_get_within, get_or_from_slice_get}
use Rattle.ili_grammar.specs.Syntax.{Ident, Element, an_element, Elements, no_elements, and_element}
use Rattle.ili_grammar.specs.Syntax.{TypeSyntax, Named, Enumeration, Polyline, Surface, Area}
use Rattle.ili_grammar.specs.Syntax.{LineHead, LineSyntax, a_line, Attributes, no_attributes}
use Rattle.ili_grammar.specs.Syntax.{and_attribute, AttributeSyntax, an_attribute, Content, Value}
use Rattle.ili_grammar.specs.Syntax.{Reference, DomainSyntax, TableSyntax, TopicSyntax, ModelSyntax}
use Rattle.resolver.specs.declared.faults.ModelCode.{ModelCode}
use Rattle.resolver.specs.declared.shape.Shape.{Shape}
use Rattle.resolver.specs.declared.shape.Shape.TheVariants as shapes
use Rattle.resolver.specs.Breaking.{Breaks, StandsAgain, AreHelpers, AreTableNames, unknown_type}
use Rattle.resolver.specs.Breaking.{unknown_vertex, unknown_reference, not_table, domain_twice}
use Rattle.resolver.specs.Breaking.{topic_twice, table_twice, attribute_twice, element_twice}
use Rattle.resolver.specs.Breaking.{ident_twice, cycle, reversed, no_length, long_bound}
use Rattle.resolver.specs.Breaking.{long_overlap, unsuited, wide, line_attribute, no_attribute}
use Rattle.resolver.specs.Occurring.{IsScope, of_model, of_topic, HasAttribute, HasElement}
use Rattle.resolver.specs.Occurring.{line_type, HasType, of_domain, of_attribute, HasAttributes}
use Rattle.resolver.specs.Occurring.{of_table, of_line, HasLine, HasReference, HasElements, of_type}
use Rattle.resolver.specs.Occurring.{of_element}
use Rattle.resolver.specs.Rules.{Entry, entry, attribute_names, element_names}
use Rattle.resolver.specs.Scopes.{Scope, domain_names, everywhere, inside}
use Rattle.resolver.proofs.ListLemmas.Members.{In, in_contained}

abbrev pub Each : {X : Type 0} → (X → Type 0) → List X → Type 0
Each P [] = Unit {0}
Each P (x ∷ xs) = P x × Each P xs

pub each_in : {X : Type 0} (P : X → Type 0) (xs : List X) (x : X) → Each P xs → In xs x → P x
each_in P [] x h i = absurd i
each_in P (y ∷ ys) x h (inl e) = subst P e h.0
each_in P (y ∷ ys) x h (inr i) = each_in P ys x h.1 i

pub each_at : {X : Type 0} (P : X → Type 0) (xs : List X) (x : X) → Each P xs → Contains xs x → P x
each_at P xs x h c = each_in P xs x h (in_contained xs x c)

pub each_both : {X : Type 0} (P : X → Type 0) (xs ys : List X) → Each P xs → Each P ys
    → Each P (xs ++ ys)
each_both P [] ys h k = k
each_both P (x ∷ xs) ys h k = (h.0, each_both P xs ys h.1 k)

each_map : {X Y : Type 0} (P : Y → Type 0) (f : X → Y) (xs : List X) → Each (λ x. P (f x)) xs
    → Each P (map f xs)
each_map P f [] h = tt
each_map P f (x ∷ xs) h = (h.0, each_map P f xs h.1)

each_as : {X : Type 0} (P R : X → Type 0) (xs : List X) → ((x : X) → P x → R x) → Each P xs
    → Each R xs
each_as P R [] f h = tt
each_as P R (x ∷ xs) f h = (f x h.0, each_as P R xs f h.1)

each_last : {X : Type 0} (P : X → Type 0) (before after : List X) (x : X)
    → Each P (before ++ (x ∷ after)) → P x
each_last P [] after x h = h.0
each_last P (y ∷ ys) after x h = each_last P ys after x h.1

-- names that all have one property
module _ (Q : Ident → Type 0) where
  abbrev mutual
    pub ElementsNames : Elements → Type 0
    ElementsNames no_elements = Unit {0}
    ElementsNames (and_element e es) = ElementNames e × ElementsNames es

    pub ElementNames : Element → Type 0
    ElementNames (an_element n parts) = Q n × ElementsNames parts

  abbrev mutual
    pub TypeNames : TypeSyntax → Type 0
    TypeNames (Named n) = Q n
    TypeNames (Enumeration es) = ElementsNames es
    TypeNames (Polyline l) = LineNames l
    TypeNames (Surface l) = LineNames l
    TypeNames (Area l) = LineNames l
    TypeNames _ = Unit {0}

    pub LineNames : LineSyntax → Type 0
    LineNames (a_line head as_ lists) = Q head.vertex × AttributesNames as_ × Each (Each Q) lists

    pub AttributesNames : Attributes → Type 0
    AttributesNames no_attributes = Unit {0}
    AttributesNames (and_attribute a as_) = AttributeNames a × AttributesNames as_

    pub AttributeNames : AttributeSyntax → Type 0
    AttributeNames (an_attribute n o c) = Q n × ContentNames c

    pub ContentNames : Content → Type 0
    ContentNames (Value t) = TypeNames t
    ContentNames (Reference n) = Q n

  abbrev pub DomainNames : DomainSyntax → Type 0
  DomainNames d = Q d.name × TypeNames d.kind

  abbrev pub TableNames : TableSyntax → Type 0
  TableNames t = Q t.name × AttributesNames t.attributes × Each (Each Q) t.idents

  abbrev pub TopicNames : TopicSyntax → Type 0
  TopicNames t = Q t.name × Each DomainNames t.domains × Each TableNames t.tables

  pub record ModelNames (m : ModelSyntax) : Type 0 where
    pub everywhere : Each DomainNames (everywhere m)
    pub topics : Each TopicNames m.topics

  -- ---- what is written in the parts
  attribute_in : (as_ : Attributes) (a : AttributeSyntax) → AttributesNames as_ → HasAttribute as_ a
      → AttributeNames a
  attribute_in no_attributes a h i = absurd i
  attribute_in (and_attribute b as_) a h (inl e) = subst AttributeNames e h.0
  attribute_in (and_attribute b as_) a h (inr i) = attribute_in as_ a h.1 i

  element_in : (es : Elements) (e : Element) → ElementsNames es → HasElement es e → ElementNames e
  element_in no_elements e h i = absurd i
  element_in (and_element d es) e h (inl s) = subst ElementNames s h.0
  element_in (and_element d es) e h (inr i) = element_in es e h.1 i

  names_of_attributes : (as_ : Attributes) → AttributesNames as_ → Each Q (attribute_names as_)
  names_of_attributes no_attributes h = tt
  names_of_attributes (and_attribute (an_attribute n o c) as_) h =
      (h.0.0, names_of_attributes as_ h.1)

  names_of_elements : (es : Elements) → ElementsNames es → Each Q (element_names es)
  names_of_elements no_elements h = tt
  names_of_elements (and_element (an_element n parts) es) h = (h.0.0, names_of_elements es h.1)

  line_in : (shape : Shape) (l : LineSyntax) → TypeNames (line_type shape l) → LineNames l
  line_in shapes.Polyline l h = h
  line_in shapes.Surface l h = h
  line_in shapes.Area l h = h

  -- names that stand again are among those that are declared
  again_in : (earlier : List (List ℕ)) (names : List Entry) (at : Ident)
      → Each (λ (e : Entry). Q e.name) names → StandsAgain earlier names at → Q at
  again_in earlier names at h s =
      subst Q s.place
      (each_last (λ (e : Entry). Q e.name) s.before s.after s.again
      (subst (Each (λ (e : Entry). Q e.name)) s.order h))

  entries_in : (names : List Ident) → Each Q names
      → Each (λ (e : Entry). Q e.name) (map entry names)
  entries_in [] h = tt
  entries_in (n ∷ ns) h = (h.0, entries_in ns h.1)

  helpers_in : (s : Scope) (table : List ℕ) (as_ : Attributes) (names : List Entry)
      → AttributesNames as_ → AreHelpers s table as_ names → Each (λ (e : Entry). Q e.name) names
  helpers_in s table no_attributes names h a = subst (Each (λ (e : Entry). Q e.name)) (sym a) tt
  helpers_in s table (and_attribute (an_attribute n o c) as_) names h (inl (rest, w, e, k)) =
      subst (Each (λ (e : Entry). Q e.name)) (sym e) (h.0.0, helpers_in s table as_ rest h.1 k)
  helpers_in s table (and_attribute (an_attribute n o c) as_) names h (inr (w, k)) =
      helpers_in s table as_ names h.1 k

  tables_in : (s : Scope) (ts : List TableSyntax) (names : List Entry) → Each TableNames ts
      → AreTableNames s ts names → Each (λ (e : Entry). Q e.name) names
  tables_in s [] names h a = subst (Each (λ (e : Entry). Q e.name)) (sym a) tt
  tables_in s (t ∷ ts) names h (own, rest, e, k, l) =
      subst (Each (λ (e : Entry). Q e.name)) (sym e) (
        h.0.0,
        each_both (λ (e : Entry). Q e.name) own rest
            (helpers_in s t.name.text t.attributes own h.0.1 k) (tables_in s ts rest h.1 l),
      )

  module _ (m : ModelSyntax) (all : ModelNames m) where
    topic_in : (t : TopicSyntax) → Contains m.topics t → TopicNames t
    topic_in t c = each_at TopicNames m.topics t all.topics c

    own_in : (s : Scope) → IsScope m s → Each DomainNames s.own
    own_in s (of_model _ e) = subst (λ (x : Scope). Each DomainNames x.own) (sym e) all.everywhere
    own_in s (of_topic _ t c e) =
        subst (λ (x : Scope). Each DomainNames x.own) (sym e) (topic_in t c).1

    mutual
      type_in : (s : Scope) (owner : Ident) (t : TypeSyntax) → HasType m s owner t
          → Q owner × TypeNames t
      type_in _ _ _ (of_domain s d i c) = each_at DomainNames s.own d (own_in s i) c
      type_in _ _ _ (of_attribute s as_ lists n o t has k) =
          attribute_in as_ (an_attribute n o (Value t)) (attributes_in s as_ lists has).0 k

      attributes_in : (s : Scope) (as_ : Attributes) (lists : List (List Ident))
          → HasAttributes m s as_ lists → AttributesNames as_ × Each (Each Q) lists
      attributes_in _ _ _ (of_table t x c k) =
          let w = each_at TableNames t.tables x (topic_in t c).2 k in (w.1, w.2)
      attributes_in _ _ _ (of_line s owner shape head as_ lists has) =
          let w = line_in shape (a_line head as_ lists)
          (type_in s owner (line_type shape (a_line head as_ lists)) has).1 in
          (w.1, w.2)

    owner_in : (s : Scope) (owner : Ident) (shape : Shape) (head : LineHead)
        → HasLine m s owner shape head → Q owner × Q head.vertex
    owner_in s owner shape head h =
        let w = type_in s owner (line_type shape (a_line head h.attributes h.lists)) h.written in
        (w.0, (line_in shape (a_line head h.attributes h.lists) w.1).0)

    reference_in : (s : Scope) (n : Ident) → HasReference m s n → Q n
    reference_in s n h =
        (attribute_in h.attributes (an_attribute h.owner h.optional (Reference n))
        (attributes_in s h.attributes h.lists h.within).0 h.written).1

    elements_in : (es : Elements) → HasElements m es → ElementsNames es
    elements_in _ (of_type s owner es h) = (type_in s owner (Enumeration es) h).1
    elements_in _ (of_element n parts es h k) =
        (element_in es (an_element n parts) (elements_in es h) k).1

    domain_at : (ds : List DomainSyntax) (i : ℕ) (d : DomainSyntax) → Each DomainNames ds
        → slice_get ds i ≡ Some d → Q d.name
    domain_at ds i d h e =
        (each_at DomainNames ds d h (
          i,
          slice_get_within ds i d e,
          get_or_from_slice_get ds i d d e,
        )).0

    pub broken_in : (c : ModelCode) (n : Ident) → Breaks m c n → Q n
    broken_in _ _ (unknown_type s owner n h v) = (type_in s owner (Named n) h).1
    broken_in _ _ (unknown_vertex s owner shape head h v) = (owner_in s owner shape head h).1
    broken_in _ _ (unknown_reference s n h t v) = reference_in s n h
    broken_in _ _ (not_table s n h t v) = reference_in s n h
    broken_in _ _ (domain_twice s n i w) =
        again_in _ _ n
        (entries_in (domain_names s.own)
        (each_map Q (λ d. d.name) s.own
        (each_as DomainNames (λ d. Q d.name) s.own (λ d k. k.0) (own_in s i)))) w
    broken_in _ _ (topic_twice n w) =
        again_in [] _ n
        (entries_in (map (λ t. t.name) m.topics)
        (each_map Q (λ t. t.name) m.topics
        (each_as TopicNames (λ t. Q t.name) m.topics (λ t k. k.0) all.topics))) w
    broken_in _ _ (table_twice t names n c a w) =
        again_in [] names n (tables_in (inside (everywhere m) t) t.tables names (topic_in t c).2 a)
        w
    broken_in _ _ (attribute_twice s as_ lists n h w) =
        again_in [] _ n
        (entries_in (attribute_names as_) (names_of_attributes as_ (attributes_in s as_ lists h).0))
        w
    broken_in _ _ (element_twice es n h w) =
        again_in [] _ n (entries_in (element_names es) (names_of_elements es (elements_in es h))) w
    broken_in _ _ (ident_twice s as_ lists l n h c w) =
        again_in [] _ n (entries_in l (each_at (Each Q) lists l (attributes_in s as_ lists h).1 c))
        w
    broken_in _ _ (cycle s i d is at w) = domain_at s.own i d (own_in s is) at
    broken_in _ _ (reversed s owner t b h c r) = (type_in s owner t h).0
    broken_in _ _ (no_length s owner d h w) = (type_in s owner _ h).0
    broken_in _ _ (long_bound s owner t b h c w) = (type_in s owner t h).0
    broken_in _ _ (long_overlap s owner shape head d v h o st co lo) =
        (owner_in s owner shape head h).0
    broken_in _ _ (unsuited s owner shape head v h st su) = (owner_in s owner shape head h).1
    broken_in _ _ (wide s owner head v h st w) = (owner_in s owner shapes.Area head h).1
    broken_in _ _ (line_attribute s owner shape head as_ lists n o c h k w) =
        (attribute_in as_ (an_attribute n o c)
        (line_in shape (a_line head as_ lists)
        (type_in s owner (line_type shape (a_line head as_ lists)) h).1).1 k).0
    broken_in _ _ (no_attribute s as_ lists l n h c k w) =
        each_at Q l n (each_at (Each Q) lists l (attributes_in s as_ lists h).1 c) k
