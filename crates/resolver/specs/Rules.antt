-- The rules on the names and types of a model, and the fault of a model that breaks some.
use Rattle.std.specs.Prelude.{ℕ, ◌+◌, true, cond, not, ◌&&◌, List, [], ◌∷◌, ◌++◌, map, flat_map}
use Rattle.std.specs.Prelude.{codes, Option, Some, None}
use Rattle.std.specs.List.{list_any}
use Rattle.ili_grammar.specs.Syntax.{Ident, Decimal, Span, Element, an_element, Elements}
use Rattle.ili_grammar.specs.Syntax.{no_elements, and_element, TypeSyntax, Named, Text}
use Rattle.ili_grammar.specs.Syntax.{Enumeration, Polyline, Surface, Area}
use Rattle.ili_grammar.specs.Syntax.{LineSyntax, a_line, Attributes, no_attributes, and_attribute}
use Rattle.ili_grammar.specs.Syntax.{AttributeSyntax, an_attribute, Content, Value, Reference}
use Rattle.ili_grammar.specs.Syntax.{DomainSyntax, TableSyntax, TopicSyntax, ModelSyntax}
use Rattle.resolver.specs.declared.faults.ModelCode.TheVariants as code
use Rattle.resolver.specs.Faults.{Fault, fault_if, first_from}
use Rattle.resolver.specs.Numbers.{spans, scale_of, is_reversed, has_long_bound, is_wide}
use Rattle.resolver.specs.Numbers.{is_text_length}
use Rattle.resolver.specs.Scopes.{Scope, Meaning, is_among, is_visible, domain_names, names_of}
use Rattle.resolver.specs.Scopes.{texts, everywhere, outside, inside, leads, comes_to, longest}
use Rattle.resolver.specs.Scopes.{meaning}
use Rattle.resolver.specs.declared.shape.Shape.{Shape}
use Rattle.resolver.specs.declared.shape.Shape.TheVariants as shapes
use Rattle.resolver.specs.Lines.{is_area, suits, is_long_overlap, is_line, is_boundary, stands_for}

-- ---- names that are declared twice

-- a declared name, and the name in the text at which it counts
pub record Entry : Type 0 where
  pub key : List ℕ
  pub name : Ident

-- a declared name that counts where it stands
abbrev pub entry : Ident → Entry
entry n = record { key = n.text; name = n }

-- each name that stands among those before it
abbrev pub twice : List (List ℕ) → List Entry → List Fault
twice before [] = []
twice before (e ∷ es) =
    fault_if (is_among e.key before) code.Twice e.name ++ twice (before ++ (e.key ∷ [])) es

abbrev pub twice_in : List Ident → List Fault
twice_in names = twice [] (map entry names)

-- ---- the elements of an enumeration
-- the names of elements, not those of their parts
abbrev pub element_names : Elements → List Ident
element_names no_elements = []
element_names (and_element (an_element n parts) es) = n ∷ element_names es

abbrev mutual
  -- the lists that stand within the elements of a list
  pub parts_faults : Elements → List Fault
  parts_faults no_elements = []
  parts_faults (and_element e es) = element_faults e ++ parts_faults es

  pub element_faults : Element → List Fault
  element_faults (an_element n es) = twice_in (element_names es) ++ parts_faults es

-- ---- numbers
abbrev pub spans_faults : Ident → ℕ → List Span → List Fault
spans_faults owner scale ss =
    fault_if (list_any (is_reversed scale) ss) code.Bounds owner
    ++ fault_if (list_any (has_long_bound scale) ss) code.Decimals owner

abbrev pub numbers_faults : Ident → TypeSyntax → List Fault
numbers_faults owner t = spans_faults owner (scale_of t) (spans t)

-- ---- names of domains and tables
abbrev pub type_name_faults : Scope → Ident → List Fault
type_name_faults s n = fault_if (not (is_visible s n.text)) code.Unknown n

abbrev pub reference_faults : Scope → Ident → List Fault
reference_faults s n =
    cond (is_among n.text s.tables) []
    (fault_if true (cond (is_visible s n.text) code.NotTable code.Unknown) n)

-- ---- the vertices of a line

-- by what their name stands for
abbrev pub kind_faults : Ident → Shape → Ident → Option Decimal → TypeSyntax → List Fault
kind_faults owner shape vertex overlap kind =
    fault_if (is_long_overlap overlap kind) code.Decimals owner
    ++ (fault_if (not (suits shape kind)) code.NotCoord vertex
    ++ fault_if (is_area shape && is_wide kind) code.Wide vertex)

abbrev pub meaning_faults : Ident → Shape → Ident → Option Decimal → Option Meaning → List Fault
meaning_faults owner shape vertex overlap None = []
meaning_faults owner shape vertex overlap (Some m) = kind_faults owner shape vertex overlap m.kind

abbrev pub vertex_faults : Scope → Ident → Shape → Ident → Option Decimal → List Fault
vertex_faults s owner shape vertex overlap =
    type_name_faults s vertex ++ meaning_faults owner shape vertex overlap (meaning s vertex.text)

-- ---- attributes and IDENT lists, of a table or of a line
-- the names of attributes
abbrev pub attribute_names : Attributes → List Ident
attribute_names no_attributes = []
attribute_names (and_attribute (an_attribute n o c) as_) = n ∷ attribute_names as_

abbrev pub no_attribute : List (List ℕ) → Ident → List Fault
no_attribute attributes n = fault_if (not (is_among n.text attributes)) code.IdentUnknown n

abbrev pub list_faults : List (List ℕ) → List Ident → List Fault
list_faults attributes names = twice_in names ++ flat_map (no_attribute attributes) names

abbrev pub lists_faults : List (List ℕ) → List (List Ident) → List Fault
lists_faults attributes lists = flat_map (list_faults attributes) lists

-- no attribute has the name of another, and the IDENT lists name attributes
abbrev pub names_faults : Attributes → List (List Ident) → List Fault
names_faults as_ lists =
    twice_in (attribute_names as_) ++ lists_faults (texts (attribute_names as_)) lists

-- no attribute of a line is a line
abbrev pub line_attribute_fault : Scope → AttributeSyntax → List Fault
line_attribute_fault s (an_attribute n o c) = fault_if (stands_for is_line s c) code.LineAttr n

abbrev pub line_attribute_faults : Scope → Attributes → List Fault
line_attribute_faults s no_attributes = []
line_attribute_faults s (and_attribute a as_) =
    line_attribute_fault s a ++ line_attribute_faults s as_

-- ---- types: `owner` is the name of the attribute or domain at which the type is written

-- a type that is no line: coordinates and numbers by their bounds; dates and alignments have none
abbrev pub plain_faults : Scope → Ident → TypeSyntax → List Fault
plain_faults s owner (Named n) = type_name_faults s n
plain_faults s owner (Text d) = fault_if (not (is_text_length d)) code.Bounds owner
plain_faults s owner (Enumeration es) = twice_in (element_names es) ++ parts_faults es
plain_faults s owner t = numbers_faults owner t

abbrev mutual
  pub type_faults : Scope → Ident → TypeSyntax → List Fault
  type_faults s owner (Polyline l) = line_faults s owner shapes.Polyline l
  type_faults s owner (Surface l) = line_faults s owner shapes.Surface l
  type_faults s owner (Area l) = line_faults s owner shapes.Area l
  type_faults s owner t = plain_faults s owner t

  pub line_faults : Scope → Ident → Shape → LineSyntax → List Fault
  line_faults s owner shape (a_line head as_ lists) =
      vertex_faults s owner shape head.vertex head.overlap
      ++ (names_faults as_ lists ++ (line_attribute_faults s as_ ++ attributes_faults s as_))

  pub attributes_faults : Scope → Attributes → List Fault
  attributes_faults s no_attributes = []
  attributes_faults s (and_attribute a as_) = attribute_faults s a ++ attributes_faults s as_

  pub attribute_faults : Scope → AttributeSyntax → List Fault
  attribute_faults s (an_attribute n o c) = content_faults s n c

  pub content_faults : Scope → Ident → Content → List Fault
  content_faults s owner (Value t) = type_faults s owner t
  content_faults s owner (Reference n) = reference_faults s n

-- ---- domains
abbrev pub cycle_faults : (ℕ → Option ℕ) → ℕ → List DomainSyntax → List Fault
cycle_faults step i [] = []
cycle_faults step i (d ∷ ds) =
    fault_if (comes_to step i longest i) code.Cycle d.name ++ cycle_faults step (i + 1) ds

abbrev pub domain_faults : Scope → DomainSyntax → List Fault
domain_faults s d = type_faults s d.name d.kind

abbrev pub domains_faults : Scope → List Fault
domains_faults s =
    twice (names_of s.above) (map entry (domain_names s.own))
    ++ (cycle_faults (leads s) 0 s.own ++ flat_map (domain_faults s) s.own)

-- ---- tables

-- the name of a helper table: table, '_', attribute
abbrev pub helper_name : List ℕ → List ℕ → List ℕ
helper_name table attribute = table ++ (codes "_" ++ attribute)

-- the helper table that an attribute gives its table, at the attribute
abbrev pub helper : Scope → List ℕ → AttributeSyntax → List Entry
helper s table (an_attribute n o c) =
    cond (stands_for is_boundary s c) (record { key = helper_name table n.text; name = n } ∷ []) []

abbrev pub helpers : Scope → List ℕ → Attributes → List Entry
helpers s table no_attributes = []
helpers s table (and_attribute a as_) = helper s table a ++ helpers s table as_

-- a table and its helper tables
abbrev pub table_entries : Scope → TableSyntax → List Entry
table_entries s t = entry t.name ∷ helpers s t.name.text t.attributes

abbrev pub table_faults : Scope → TableSyntax → List Fault
table_faults s t = names_faults t.attributes t.idents ++ attributes_faults s t.attributes

abbrev pub tables_faults : Scope → List TableSyntax → List Fault
tables_faults s ts = twice [] (flat_map (table_entries s) ts) ++ flat_map (table_faults s) ts

-- ---- topics and models
abbrev pub topic_faults : List DomainSyntax → TopicSyntax → List Fault
topic_faults above t = domains_faults (inside above t) ++ tables_faults (inside above t) t.tables

-- all that is at fault in a model
abbrev pub faults : ModelSyntax → List Fault
faults m =
    domains_faults (outside (everywhere m))
    ++ (twice_in (map (λ t. t.name) m.topics) ++ flat_map (topic_faults (everywhere m)) m.topics)

-- the fault that counts, or none
abbrev pub first_fault : ModelSyntax → Option Fault
first_fault m = first_from None (faults m)
