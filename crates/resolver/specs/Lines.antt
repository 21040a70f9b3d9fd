-- Types of lines, and the coordinates of their vertices.
use Rattle.std.specs.Prelude.{Bool, true, false, ◌&&◌, Option}
use Rattle.std.specs.Option.{option_map_or}
use Rattle.ili_grammar.specs.Syntax.{Decimal, TypeSyntax, Coord2, Coord3, Polyline, Surface, Area}
use Rattle.ili_grammar.specs.Syntax.{Content}
use Rattle.resolver.specs.declared.shape.Shape.{Shape}
use Rattle.resolver.specs.declared.shape.Shape.TheVariants as shape
use Rattle.resolver.specs.Scopes.{Scope, value_meant}
use Rattle.resolver.specs.Numbers.{scale_of, is_long}

abbrev pub is_area : Shape → Bool
is_area shape.Area = true
is_area _ = false

-- coordinates of two or of three axes
abbrev pub is_coord : TypeSyntax → Bool
is_coord (Coord2 c) = true
is_coord (Coord3 c) = true
is_coord _ = false

-- coordinates of two axes
abbrev pub is_coord2 : TypeSyntax → Bool
is_coord2 (Coord2 c) = true
is_coord2 _ = false

-- vertices of this type suit a line: of two axes, and for a POLYLINE also of three
abbrev pub suits : Shape → TypeSyntax → Bool
suits shape.Polyline kind = is_coord kind
suits _ kind = is_coord2 kind

-- the overlap has more than 18 digits at the scale of the vertices
abbrev pub is_long_overlap : Option Decimal → TypeSyntax → Bool
is_long_overlap overlap kind =
    is_coord kind && option_map_or (is_long (scale_of kind)) overlap false

-- a line of one of the three kinds
abbrev pub is_line : TypeSyntax → Bool
is_line (Polyline l) = true
is_line (Surface l) = true
is_line (Area l) = true
is_line _ = false

-- a line that gives its table a helper table
abbrev pub is_boundary : TypeSyntax → Bool
is_boundary (Surface l) = true
is_boundary (Area l) = true
is_boundary _ = false

-- what an attribute stands for passes a test of types; a reference, or a chain that ends at no
-- type, does not
abbrev pub stands_for : (TypeSyntax → Bool) → Scope → Content → Bool
stands_for test s c = option_map_or (λ m. test m.kind) (value_meant s c) false
