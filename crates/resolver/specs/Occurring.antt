-- What is written in a model and in which scope: types, lines, attributes with their IDENT lists,
-- enumerations.
use Rattle.std.specs.Prelude.{◌≡◌, ◌⊎◌, Bool, List, Contains}
use Rattle.ili_grammar.specs.Syntax.{Ident, Element, an_element, Elements, no_elements, and_element}
use Rattle.ili_grammar.specs.Syntax.{TypeSyntax, Enumeration, Polyline, Surface, Area, LineHead}
use Rattle.ili_grammar.specs.Syntax.{LineSyntax, a_line, Attributes, no_attributes, and_attribute}
use Rattle.ili_grammar.specs.Syntax.{AttributeSyntax, an_attribute, Value, Reference, DomainSyntax}
use Rattle.ili_grammar.specs.Syntax.{TableSyntax, TopicSyntax, ModelSyntax}
use Rattle.resolver.specs.declared.shape.Shape.{Shape}
use Rattle.resolver.specs.declared.shape.Shape.TheVariants as shapes
use Rattle.resolver.specs.Scopes.{Scope, everywhere, outside, inside}

-- the scope outside the topics, or that of one topic
pub data IsScope (m : ModelSyntax) : Scope → Type 0 where
  of_model : (s : Scope) → s ≡ outside (everywhere m) → IsScope m s
  of_topic : (s : Scope) (t : TopicSyntax) → Contains m.topics t → s ≡ inside (everywhere m) t
      → IsScope m s

-- an attribute is one of some
abbrev pub HasAttribute : Attributes → AttributeSyntax → Type 0
HasAttribute no_attributes a = ⊥
HasAttribute (and_attribute b as_) a = (b ≡ a) ⊎ HasAttribute as_ a

-- an element is one of a list of elements, not of their parts
abbrev pub HasElement : Elements → Element → Type 0
HasElement no_elements e = ⊥
HasElement (and_element d es) e = (d ≡ e) ⊎ HasElement es e

-- the type of a line of that shape
abbrev pub line_type : Shape → LineSyntax → TypeSyntax
line_type shapes.Polyline l = Polyline l
line_type shapes.Surface l = Surface l
line_type shapes.Area l = Area l

mutual
  -- a type is written in a scope as that of the domain or attribute that has the name
  pub data HasType (m : ModelSyntax) : Scope → Ident → TypeSyntax → Type 0 where
    of_domain : (s : Scope) (d : DomainSyntax) → IsScope m s → Contains s.own d
        → HasType m s d.name d.kind
    of_attribute : (s : Scope) (as_ : Attributes) (lists : List (List Ident)) (n : Ident)
        (optional : Bool) (t : TypeSyntax) → HasAttributes m s as_ lists
        → HasAttribute as_ (an_attribute n optional (Value t)) → HasType m s n t

  -- the attributes and the IDENT lists of a table, or those of a LINEATTR
  pub data HasAttributes (m : ModelSyntax) : Scope → Attributes → List (List Ident) → Type 0 where
    of_table : (t : TopicSyntax) (x : TableSyntax) → Contains m.topics t → Contains t.tables x
        → HasAttributes m (inside (everywhere m) t) x.attributes x.idents
    of_line : (s : Scope) (owner : Ident) (shape : Shape) (head : LineHead) (as_ : Attributes)
        (lists : List (List Ident)) → HasType m s owner (line_type shape (a_line head as_ lists))
        → HasAttributes m s as_ lists

-- a line of that shape is written in a scope as the type of the domain or attribute of that name
pub record HasLine (m : ModelSyntax) (s : Scope) (owner : Ident) (shape : Shape)
    (head : LineHead) : Type 0 where
  pub attributes : Attributes
  pub lists : List (List Ident)
  pub written : HasType m s owner (line_type shape (a_line head attributes lists))

-- a reference to a table of that name is written in a scope
pub record HasReference (m : ModelSyntax) (s : Scope) (name : Ident) : Type 0 where
  pub attributes : Attributes
  pub lists : List (List Ident)
  pub owner : Ident
  pub optional : Bool
  pub within : HasAttributes m s attributes lists
  pub written : HasAttribute attributes (an_attribute owner optional (Reference name))

-- a list of elements is written in an enumeration, as its own or as the parts of an element
pub data HasElements (m : ModelSyntax) : Elements → Type 0 where
  of_type : (s : Scope) (owner : Ident) (es : Elements) → HasType m s owner (Enumeration es)
      → HasElements m es
  of_element : (n : Ident) (parts es : Elements) → HasElements m es
      → HasElement es (an_element n parts) → HasElements m parts
