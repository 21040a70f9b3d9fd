-- A model with its names resolved: lists in place of vectors.
use Rattle.std.specs.Prelude.{ℕ, ℤ, List, Bool, Option}
use Rattle.ili_grammar.specs.Syntax.{Codes}

-- the numbers from the low to the high one, in units of the last of so many decimals
pub record Limits : Type 0 where
  pub low : ℤ
  pub high : ℤ
  pub scale : ℕ

-- the bounds of a coordinate in two axes
pub record Window : Type 0 where
  pub x : Limits
  pub y : Limits

-- the bounds of a coordinate in three axes
pub record Block : Type 0 where
  pub x : Limits
  pub y : Limits
  pub z : Limits

-- what a value may be, where it is no line
pub data Form : Type 0 where
  Range Dim1 Dim2 Radians Grads Degrees : Limits → Form
  Coord2 AreaPoint : Window → Form
  Coord3 : Block → Form
  Text Enumeration Reference : ℕ → Form
  Date HAlignment VAlignment : Form

-- what a line may be: its name, whether it may be undefined and may have arcs, the bounds of its
-- vertices and of their heights, and the permitted overlap
pub record LineForm : Type 0 where
  pub name : List ℕ
  pub optional : Bool
  pub arcs : Bool
  pub window : Window
  pub height : Option Limits
  pub overlap : Option ℤ

mutual
  -- an attribute: its name, whether it may be undefined, and its content
  pub data Attribute : Type 0 where
    an_attribute : List ℕ → Bool → AttributeForm → Attribute

  -- what an attribute holds: a value or a line; lines of a SURFACE and of an AREA may have
  -- attributes of their own
  pub data AttributeForm : Type 0 where
    Value : Form → AttributeForm
    Polyline : LineForm → AttributeForm
    Surface Area : LineForm → LinePart → AttributeForm

  -- the attributes of a boundary's lines, and their IDENT lists
  pub data LinePart : Type 0 where
    a_part : Attributes → List (List ℕ) → LinePart

  -- a list of attributes
  pub data Attributes : Type 0 where
    no_attributes : Attributes
    and_attribute : Attribute → Attributes → Attributes

-- a declared table: its name, its attributes, and its IDENT lists by the places of attributes
pub record ModelTable : Type 0 where
  pub name : List ℕ
  pub attributes : Attributes
  pub idents : List (List ℕ)

-- a topic: its name and its tables
pub record Topic : Type 0 where
  pub name : List ℕ
  pub tables : List ModelTable

-- what a model stands for: its name, its three codes and its topics
pub record ResolvedModel : Type 0 where
  pub name : List ℕ
  pub codes : Codes
  pub topics : List Topic
