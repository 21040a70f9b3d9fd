-- How great the numbers of a model are, how many names it has and of which form, and which bytes
-- its codes are.
use Rattle.std.specs.Prelude.{◌≡◌, ℕ, ◌+◌, ◌^◌, ◌<◌, ◌≤◌, nat_abs, List, length, IfSome}
use Rattle.std.specs.List.{All, sum_by}
use Rattle.ili_lexer.specs.Forms.{IsName}
use Rattle.ili_grammar.specs.Syntax.{Ident, Decimal, Span, Element, an_element, Elements}
use Rattle.ili_grammar.specs.Syntax.{no_elements, and_element, TypeSyntax, Named, Coord2, Coord3}
use Rattle.ili_grammar.specs.Syntax.{Dim1, Dim2, Radians, Grads, Degrees, Range, Text, Date}
use Rattle.ili_grammar.specs.Syntax.{HAlignment, VAlignment, Enumeration, Polyline, Surface, Area}
use Rattle.ili_grammar.specs.Syntax.{LineSyntax, a_line, Attributes, no_attributes, and_attribute}
use Rattle.ili_grammar.specs.Syntax.{AttributeSyntax, an_attribute, Content, Value, Reference}
use Rattle.ili_grammar.specs.Syntax.{DomainSyntax, TableSyntax, TopicSyntax, Codes, ModelSyntax}

-- ---- numbers
-- less than 10^18 in magnitude without its full stop, and at most 9 digits after it
abbrev pub IsSmall : Decimal → Type 0
IsSmall d = (nat_abs d.digits < 10 ^ 18) × (d.scale ≤ 9)

abbrev pub IsSmallSpan : Span → Type 0
IsSmallSpan s = IsSmall s.low × IsSmall s.high

abbrev mutual
  -- every number that is written in a type
  pub IsSmallType : TypeSyntax → Type 0
  IsSmallType (Named n) = Unit {0}
  IsSmallType (Coord2 c) = IsSmallSpan c.x × IsSmallSpan c.y
  IsSmallType (Coord3 c) = IsSmallSpan c.x × IsSmallSpan c.y × IsSmallSpan c.z
  IsSmallType (Dim1 s) = IsSmallSpan s
  IsSmallType (Dim2 s) = IsSmallSpan s
  IsSmallType (Radians s) = IsSmallSpan s
  IsSmallType (Grads s) = IsSmallSpan s
  IsSmallType (Degrees s) = IsSmallSpan s
  IsSmallType (Range s) = IsSmallSpan s
  IsSmallType (Text d) = IsSmall d
  IsSmallType Date = Unit {0}
  IsSmallType HAlignment = Unit {0}
  IsSmallType VAlignment = Unit {0}
  IsSmallType (Enumeration es) = Unit {0}
  IsSmallType (Polyline l) = IsSmallLine l
  IsSmallType (Surface l) = IsSmallLine l
  IsSmallType (Area l) = IsSmallLine l

  pub IsSmallLine : LineSyntax → Type 0
  IsSmallLine (a_line h as_ is) = IfSome h.overlap IsSmall × AreSmallAttributes as_

  pub AreSmallAttributes : Attributes → Type 0
  AreSmallAttributes no_attributes = Unit {0}
  AreSmallAttributes (and_attribute a as_) = IsSmallAttribute a × AreSmallAttributes as_

  pub IsSmallAttribute : AttributeSyntax → Type 0
  IsSmallAttribute (an_attribute n o c) = IsSmallContent c

  pub IsSmallContent : Content → Type 0
  IsSmallContent (Value t) = IsSmallType t
  IsSmallContent (Reference n) = Unit {0}

abbrev pub IsSmallDomain : DomainSyntax → Type 0
IsSmallDomain d = IsSmallType d.kind

abbrev pub IsSmallTable : TableSyntax → Type 0
IsSmallTable t = AreSmallAttributes t.attributes

abbrev pub IsSmallTopic : TopicSyntax → Type 0
IsSmallTopic t = All IsSmallDomain t.domains × All IsSmallTable t.tables

-- every number that is written in a model
pub record AreNumbersSmall (m : ModelSyntax) : Type 0 where
  pub outer : All IsSmallDomain m.outer
  pub domains : All IsSmallDomain m.domains
  pub topics : All IsSmallTopic m.topics

-- ---- names
abbrev mutual
  pub element_names : Element → ℕ
  element_names (an_element n es) = 1 + elements_names es

  pub elements_names : Elements → ℕ
  elements_names no_elements = 0
  elements_names (and_element e es) = element_names e + elements_names es

-- the names of IDENT lists
abbrev pub lists_names : List (List Ident) → ℕ
lists_names ls = sum_by (λ l. length l) ls

abbrev mutual
  -- how many names are written in a type
  pub type_names : TypeSyntax → ℕ
  type_names (Named n) = 1
  type_names (Enumeration es) = elements_names es
  type_names (Polyline l) = line_names l
  type_names (Surface l) = line_names l
  type_names (Area l) = line_names l
  type_names _ = 0

  pub line_names : LineSyntax → ℕ
  line_names (a_line h as_ is) = 1 + attributes_names as_ + lists_names is

  pub attributes_names : Attributes → ℕ
  attributes_names no_attributes = 0
  attributes_names (and_attribute a as_) = attribute_names a + attributes_names as_

  pub attribute_names : AttributeSyntax → ℕ
  attribute_names (an_attribute n o c) = 1 + content_names c

  pub content_names : Content → ℕ
  content_names (Value t) = type_names t
  content_names (Reference n) = 1

abbrev pub domain_names : DomainSyntax → ℕ
domain_names d = 1 + type_names d.kind

abbrev pub table_names : TableSyntax → ℕ
table_names t = 1 + attributes_names t.attributes + lists_names t.idents

abbrev pub topic_names : TopicSyntax → ℕ
topic_names t = 1 + sum_by domain_names t.domains + sum_by table_names t.tables

-- how many names are written in a model, those after END not counted
abbrev pub name_count : ModelSyntax → ℕ
name_count m =
    2 + sum_by domain_names m.outer + sum_by domain_names m.domains + sum_by topic_names m.topics

-- ---- the form of names: a letter, then letters, digits and `_` (`IsName`)
-- each of these attributes has a name; nothing is said of those of a LINEATTR part
abbrev pub AreNamed : Attributes → Type 0
AreNamed no_attributes = Unit {0}
AreNamed (and_attribute (an_attribute n o c) as_) = IsName n.text × AreNamed as_

-- a table has a name, and each of its attributes
pub record IsNamedTable (t : TableSyntax) : Type 0 where
  pub name : IsName t.name.text
  pub attributes : AreNamed t.attributes

-- a topic has a name, and each of its tables
pub record IsNamedTopic (t : TopicSyntax) : Type 0 where
  pub name : IsName t.name.text
  pub tables : All IsNamedTable t.tables

-- ---- codes
-- three bytes from 33 to 126, no two equal
pub record AreCodes (c : Codes) : Type 0 where
  pub blank : (33 ≤ c.blank) × (c.blank ≤ 126)
  pub undefined : (33 ≤ c.undefined) × (c.undefined ≤ 126)
  pub continued : (33 ≤ c.continued) × (c.continued ≤ 126)
  pub undefined_differs : c.undefined ≡ c.blank → ⊥
  pub continued_differs : (c.continued ≡ c.blank → ⊥) × (c.continued ≡ c.undefined → ⊥)

-- what holds of each model that is read
pub record IsWithinLimits (m : ModelSyntax) : Type 0 where
  pub numbers : AreNumbersSmall m
  pub names : name_count m ≤ 4194304
  pub named : All IsNamedTopic m.topics
  pub codes : AreCodes m.codes
