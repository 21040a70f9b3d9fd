-- Bounds and overlaps at a scale: in units of the last of so many decimals.
use Rattle.std.specs.Prelude.{ℕ, ◌+◌, ◌-◌, ◌*◌, ◌/◌, ◌^◌, min, max, ℤ, pos, negsuc, neg_ℤ}
use Rattle.std.specs.Prelude.{◌-ℤ◌, int_lt, int_le, unsigned_abs, nat_le, Bool, false, ◌&&◌, ◌||◌}
use Rattle.std.specs.Prelude.{◌==◌, List, [], ◌∷◌}
use Rattle.ili_grammar.specs.Syntax.{Decimal, Span, TypeSyntax, Coord2, Coord3, Dim1, Dim2, Radians}
use Rattle.ili_grammar.specs.Syntax.{Grads, Degrees, Range, Enumeration, Element, an_element}
use Rattle.ili_grammar.specs.Syntax.{Elements, no_elements, and_element}

-- the bounds that are written in a type
abbrev pub spans : TypeSyntax → List Span
spans (Coord2 c) = c.x ∷ c.y ∷ []
spans (Coord3 c) = c.x ∷ c.y ∷ c.z ∷ []
spans (Dim1 s) = s ∷ []
spans (Dim2 s) = s ∷ []
spans (Radians s) = s ∷ []
spans (Grads s) = s ∷ []
spans (Degrees s) = s ∷ []
spans (Range s) = s ∷ []
spans _ = []

-- the greatest number of decimals among some bounds
abbrev pub most_decimals : List Span → ℕ
most_decimals [] = 0
most_decimals (s ∷ ss) = max (max s.low.scale s.high.scale) (most_decimals ss)

-- the scale of a type: the greatest number of decimals among its bounds
abbrev pub scale_of : TypeSyntax → ℕ
scale_of t = most_decimals (spans t)

-- a number without its sign in units of a scale; further decimals are dropped
abbrev pub magnitude : ℕ → Decimal → ℕ
magnitude scale d = (unsigned_abs d.digits * 10 ^ (scale - d.scale)) / 10 ^ (d.scale - scale)

-- so many units on the side of zero on which a number is
abbrev pub on_side_of : ℤ → ℕ → ℤ
on_side_of (pos n) m = pos m
on_side_of (negsuc n) m = neg_ℤ (pos m)

-- a number in units of a scale; further decimals are dropped, towards zero
abbrev pub in_units : ℕ → Decimal → ℤ
in_units scale d = on_side_of d.digits (magnitude scale d)

-- more than 18 digits at a scale
abbrev pub is_long : ℕ → Decimal → Bool
is_long scale d = nat_le (10 ^ 18) (magnitude scale d)

abbrev pub is_reversed : ℕ → Span → Bool
is_reversed scale s = int_lt (in_units scale s.high) (in_units scale s.low)

abbrev pub has_long_bound : ℕ → Span → Bool
has_long_bound scale s = is_long scale s.low || is_long scale s.high

-- the high bound is 2^40 units or more above the low one
abbrev pub is_wide_span : ℕ → Span → Bool
is_wide_span scale s = int_le (pos (2 ^ 40)) (in_units scale s.high -ℤ in_units scale s.low)

-- an area with such vertices is too wide, in x or in y
abbrev pub is_wide : TypeSyntax → Bool
is_wide (Coord2 c) =
    is_wide_span (scale_of (Coord2 c)) c.x || is_wide_span (scale_of (Coord2 c)) c.y
is_wide (Coord3 c) =
    is_wide_span (scale_of (Coord3 c)) c.x || is_wide_span (scale_of (Coord3 c)) c.y
is_wide _ = false

-- a greatest number of bytes: whole, from 1 to 65,535
abbrev pub is_text_length : Decimal → Bool
is_text_length d = (d.scale == 0) && (int_le (pos 1) d.digits && int_le d.digits (pos 65535))

-- the elements without parts, those of all parts counted
abbrev mutual
  pub leaves : Elements → ℕ
  leaves no_elements = 0
  leaves (and_element e es) = leaves_in e + leaves es

  pub leaves_in : Element → ℕ
  leaves_in (an_element n es) = max 1 (leaves es)

-- the leaves of a type as far as 32 bits count, none where it is no enumeration
abbrev pub counted_leaves : TypeSyntax → ℕ
counted_leaves (Enumeration es) = min (leaves es) (2 ^ 32 - 1)
counted_leaves _ = 0
