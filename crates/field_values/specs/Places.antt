-- Places of the plane, and when three of them lie on no arc.
use Rattle.std.specs.Prelude.{ℕ, ℤ, pos, ◌-ℤ◌, ◌*ℤ◌, int_le, Bool, ◌&&◌, ◌||◌, not, List, [], ◌∷◌}
use Rattle.std.specs.Prelude.{Option, Result, Ok, Err}
use Rattle.resolver.specs.Resolved.{Limits, Window}
use Rattle.field_values.specs.declared.value.ValueFault.{ValueFault}
use Rattle.field_values.specs.Fields.{first_fault, number_fault}
use Rattle.field_values.specs.Readings.{units}
use Rattle.field_values.specs.declared.place.Place as code

-- a place of the plane, in whole units
pub record Place : Type 0 where
  pub x : ℤ
  pub y : ℤ

-- the place that the first two fields of a vertex name
abbrev pub place_named : Window → List (List ℕ) → Place
place_named w (x ∷ y ∷ fields) = record { x = units w.x x; y = units w.y y }
place_named w (x ∷ []) = record { x = units w.x x; y = pos 0 }
place_named w [] = record { x = pos 0; y = pos 0 }

-- the same number
abbrev pub is_same : ℤ → ℤ → Bool
is_same a b = int_le a b && int_le b a

-- the same place: both numbers are the same
abbrev pub is_same_place : Place → Place → Bool
is_same_place p q = is_same p.x q.x && is_same p.y q.y

-- the cross product of m - s and e - s is 0
abbrev pub are_collinear : Place → Place → Place → Bool
are_collinear s m e = is_same ((m.x -ℤ s.x) *ℤ (e.y -ℤ s.y)) ((m.y -ℤ s.y) *ℤ (e.x -ℤ s.x))

-- between two numbers, both included
abbrev pub is_between : ℤ → ℤ → ℤ → Bool
is_between a b n = (int_le a n && int_le n b) || (int_le b n && int_le n a)

-- no arc leads from s over m to e: s is e, or the three lie on one straight and m not between s and
-- e
abbrev pub is_no_arc : Place → Place → Place → Bool
is_no_arc s m e =
    is_same_place s e
    || (are_collinear s m e && not (is_between s.x e.x m.x && is_between s.y e.y m.y))

-- a place of the code
abbrev pub place_view : code.Place → Place
place_view p = record { x = p.x; y = p.y }

-- the place of two words, and the first rule that they break
abbrev pub place_at : Limits → Limits → List ℕ → List ℕ → Place
place_at across upward x y = record { x = units across x; y = units upward y }

abbrev pub place_fault : Limits → Limits → List ℕ → List ℕ → Option ValueFault
place_fault across upward x y = first_fault (number_fault across x) (number_fault upward y)

abbrev pub place_reading : Result code.Place ValueFault → Result Place ValueFault
place_reading (Ok p) = Ok (place_view p)
place_reading (Err fault) = Err fault
