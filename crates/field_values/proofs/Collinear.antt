-- Three places on one straight, from the differences of their numbers.
use Rattle.std.proofs.Common.{◌≡◌, Bool, ℤ, ◌*ℤ◌, ◌-ℤ◌}
use Rattle.field_values.specs.Places.{Place, is_same, are_collinear}

pub collinear_parts : (s m e : Place) (mx my ex ey p q : ℤ) (r : Bool) → mx ≡ m.x -ℤ s.x
    → my ≡ m.y -ℤ s.y → ex ≡ e.x -ℤ s.x → ey ≡ e.y -ℤ s.y
    → p ≡ mx *ℤ ey → q ≡ my *ℤ ex → r ≡ is_same p q → r ≡ are_collinear s m e
collinear_parts s m e mx my ex ey p q r a b c d f g h = cc
