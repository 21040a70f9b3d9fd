-- Each rule on the names and types of a model, by what is written: where it is broken, and at which
-- name.
use Rattle.std.specs.Prelude.{◌≡◌, ◌⊎◌, ℕ, ◌^◌, ◌≤◌, ◌<ℤ◌, Bool, true, false, List, [], ◌∷◌, ◌++◌}
use Rattle.std.specs.Prelude.{Contains, map, slice_get, Some}
use Rattle.ili_grammar.specs.Syntax.{Ident, Decimal, Span, TypeSyntax, Named, Text, LineHead}
use Rattle.ili_grammar.specs.Syntax.{a_line, Elements, Attributes, no_attributes, and_attribute}
use Rattle.ili_grammar.specs.Syntax.{an_attribute, Content, Value, Reference, DomainSyntax}
use Rattle.ili_grammar.specs.Syntax.{TableSyntax, TopicSyntax, ModelSyntax}
use Rattle.resolver.specs.declared.faults.ModelCode.{ModelCode}
use Rattle.resolver.specs.declared.faults.ModelCode.TheVariants as code
use Rattle.resolver.specs.declared.shape.Shape.{Shape}
use Rattle.resolver.specs.declared.shape.Shape.TheVariants as shapes
use Rattle.resolver.specs.Scopes.{Scope, Meaning, place, texts, names_of, domain_names, everywhere}
use Rattle.resolver.specs.Scopes.{inside}
use Rattle.resolver.specs.Numbers.{spans, scale_of, magnitude, in_units, is_wide}
use Rattle.resolver.specs.Lines.{suits, is_coord, is_line, is_boundary}
use Rattle.resolver.specs.Rules.{Entry, entry, attribute_names, element_names, helper_name}
use Rattle.resolver.specs.Standing.{StandsFor, IsLength}
use Rattle.resolver.specs.Occurring.{IsScope, HasType, HasAttributes, HasAttribute, HasLine}
use Rattle.resolver.specs.Occurring.{HasReference, HasElements, line_type}

-- ---- names
-- a domain of that name is declared in the scope or further out
abbrev pub IsVisible : Scope → List ℕ → Type 0
IsVisible s name = Contains (names_of s.above) name ⊎ Contains (names_of s.own) name

-- the bytes of the names of some entries
abbrev pub names_in : List Entry → List (List ℕ)
names_in es = map (λ e. e.key) es

-- of names in order one stands again: it is among those before it, or among earlier ones
pub record StandsAgain (earlier : List (List ℕ)) (names : List Entry) (at : Ident) : Type 0 where
  pub before : List Entry
  pub again : Entry
  pub after : List Entry
  pub order : names ≡ before ++ (again ∷ after)
  pub known : Contains (earlier ++ names_in before) again.key
  pub place : again.name ≡ at

-- a name that stands again, of names that count where they are written
abbrev pub IsRepeated : List Ident → Ident → Type 0
IsRepeated names at = StandsAgain [] (map entry names) at

-- the content of an attribute stands for a type that passes a test; a reference stands for none
abbrev pub Means : (TypeSyntax → Bool) → Scope → Content → Type 0
Means test s (Value t) = (v : Meaning) × StandsFor v s t × (test v.kind ≡ true)
Means test s (Reference n) = ⊥

-- the names that some attributes of a table declare: of each SURFACE and AREA its helper table, a
-- name that counts at the attribute
abbrev pub AreHelpers : Scope → List ℕ → Attributes → List Entry → Type 0
AreHelpers s table no_attributes names = names ≡ []
AreHelpers s table (and_attribute (an_attribute n o c) as_) names =
    ((rest : List Entry) × Means is_boundary s c
    × (names ≡ record { key = helper_name table n.text; name = n } ∷ rest)
    × AreHelpers s table as_ rest)
    ⊎ ((Means is_boundary s c → ⊥) × AreHelpers s table as_ names)

-- the names that the tables of a topic declare, each followed by those of its helper tables
abbrev pub AreTableNames : Scope → List TableSyntax → List Entry → Type 0
AreTableNames s [] names = names ≡ []
AreTableNames s (t ∷ ts) names =
    (own : List Entry) × (rest : List Entry) × (names ≡ entry t.name ∷ (own ++ rest))
    × AreHelpers s t.name.text t.attributes own × AreTableNames s ts rest

-- ---- domains by their numbers in a scope, from 0
-- the type of the one is the name of the other, which no domain further out has
pub record LeadsAtOnce (s : Scope) (i j : ℕ) : Type 0 where
  pub domain : DomainSyntax
  pub name : Ident
  pub declared : slice_get s.own i ≡ Some domain
  pub kind : domain.kind ≡ Named name
  pub here : Contains (names_of s.above) name.text → ⊥
  pub first : place name.text (names_of s.own) ≡ Some j

-- one domain leads to another in one step or more
pub data LeadsTo (s : Scope) (j : ℕ) : ℕ → Type 0 where
  at_once : (i : ℕ) → LeadsAtOnce s i j → LeadsTo s j i
  by_way_of : (i k : ℕ) → LeadsAtOnce s i k → LeadsTo s j k → LeadsTo s j i

-- ---- numbers
-- more than 18 digits in units of a scale
abbrev pub IsLong : ℕ → Decimal → Type 0
IsLong scale d = 10 ^ 18 ≤ magnitude scale d

-- the upper bound is below the lower one, in units of a scale
abbrev pub IsReversed : ℕ → Span → Type 0
IsReversed scale b = in_units scale b.high <ℤ in_units scale b.low

-- The rule of that code is broken at that name.
pub data Breaks (m : ModelSyntax) : ModelCode → Ident → Type 0 where
  -- `unknown`: the name of a type or of vertices is no visible domain
  unknown_type : (s : Scope) (owner n : Ident) → HasType m s owner (Named n)
      → (IsVisible s n.text → ⊥) → Breaks m code.Unknown n
  unknown_vertex : (s : Scope) (owner : Ident) (shape : Shape) (head : LineHead)
      → HasLine m s owner shape head → (IsVisible s head.vertex.text → ⊥)
      → Breaks m code.Unknown head.vertex
  -- `unknown`: the name of a reference is neither a table of the topic nor a visible domain
  unknown_reference : (s : Scope) (n : Ident) → HasReference m s n
      → (Contains s.tables n.text → ⊥) → (IsVisible s n.text → ⊥) → Breaks m code.Unknown n
  -- `nottable`: it is a visible domain and no table of the topic
  not_table : (s : Scope) (n : Ident) → HasReference m s n
      → (Contains s.tables n.text → ⊥) → IsVisible s n.text → Breaks m code.NotTable n
  -- `twice`: a visible domain that is declared before has the name of a domain
  domain_twice : (s : Scope) (n : Ident) → IsScope m s
      → StandsAgain (names_of s.above) (map entry (domain_names s.own)) n → Breaks m code.Twice n
  topic_twice : (n : Ident) → IsRepeated (map (λ t. t.name) m.topics) n → Breaks m code.Twice n
  -- two tables of a topic have one name, helper tables included
  table_twice : (t : TopicSyntax) (names : List Entry) (n : Ident) → Contains m.topics t
      → AreTableNames (inside (everywhere m) t) t.tables names → StandsAgain [] names n
      → Breaks m code.Twice n
  -- two attributes of a table or of a LINEATTR
  attribute_twice : (s : Scope) (as_ : Attributes) (lists : List (List Ident)) (n : Ident)
      → HasAttributes m s as_ lists → IsRepeated (attribute_names as_) n → Breaks m code.Twice n
  element_twice : (es : Elements) (n : Ident) → HasElements m es → IsRepeated (element_names es) n
      → Breaks m code.Twice n
  ident_twice : (s : Scope) (as_ : Attributes) (lists : List (List Ident)) (l : List Ident)
      (n : Ident) → HasAttributes m s as_ lists → Contains lists l → IsRepeated l n
      → Breaks m code.Twice n
  -- `cycle`: a domain leads back to itself
  cycle : (s : Scope) (i : ℕ) (d : DomainSyntax) → IsScope m s → slice_get s.own i ≡ Some d
      → LeadsTo s i i → Breaks m code.Cycle d.name
  -- `bounds`: a low bound of a type is above its high one
  reversed : (s : Scope) (owner : Ident) (t : TypeSyntax) (b : Span) → HasType m s owner t
      → Contains (spans t) b → IsReversed (scale_of t) b → Breaks m code.Bounds owner
  -- `bounds`: the length of a text is no whole number from 1 to 65,535
  no_length : (s : Scope) (owner : Ident) (d : Decimal) → HasType m s owner (Text d)
      → ((n : ℕ) → IsLength d n → ⊥) → Breaks m code.Bounds owner
  -- `decimals`: a bound has more than 18 digits at the scale of its type
  long_bound : (s : Scope) (owner : Ident) (t : TypeSyntax) (b : Span) → HasType m s owner t
      → Contains (spans t) b → IsLong (scale_of t) b.low ⊎ IsLong (scale_of t) b.high
      → Breaks m code.Decimals owner
  -- `decimals`: an overlap has more than 18 digits at the scale of the line's vertices
  long_overlap : (s : Scope) (owner : Ident) (shape : Shape) (head : LineHead) (d : Decimal)
      (v : Meaning) → HasLine m s owner shape head → head.overlap ≡ Some d
      → StandsFor v s (Named head.vertex) → is_coord v.kind ≡ true → IsLong (scale_of v.kind) d
      → Breaks m code.Decimals owner
  -- `notcoord`: vertices of an AREA or SURFACE that are no COORD2, of a POLYLINE that are neither
  -- COORD2 nor COORD3
  unsuited : (s : Scope) (owner : Ident) (shape : Shape) (head : LineHead) (v : Meaning)
      → HasLine m s owner shape head → StandsFor v s (Named head.vertex)
      → suits shape v.kind ≡ false → Breaks m code.NotCoord head.vertex
  -- `wide`: vertices of an AREA in a window of 2^40 units or more in x or y
  wide : (s : Scope) (owner : Ident) (head : LineHead) (v : Meaning)
      → HasLine m s owner shapes.Area head → StandsFor v s (Named head.vertex)
      → is_wide v.kind ≡ true → Breaks m code.Wide head.vertex
  -- `lineattr`: an attribute of a LINEATTR is a line
  line_attribute : (s : Scope) (owner : Ident) (shape : Shape) (head : LineHead) (as_ : Attributes)
      (lists : List (List Ident)) (n : Ident) (optional : Bool) (c : Content)
      → HasType m s owner (line_type shape (a_line head as_ lists))
      → HasAttribute as_ (an_attribute n optional c) → Means is_line s c → Breaks m code.LineAttr n
  -- `identunknown`: a name of an IDENT list is no attribute of its table or LINEATTR
  no_attribute : (s : Scope) (as_ : Attributes) (lists : List (List Ident)) (l : List Ident)
      (n : Ident) → HasAttributes m s as_ lists → Contains lists l → Contains l n
      → (Contains (texts (attribute_names as_)) n.text → ⊥) → Breaks m code.IdentUnknown n
