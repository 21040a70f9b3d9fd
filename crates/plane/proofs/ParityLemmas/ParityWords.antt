-- Counts along the vertical and along the sweep line: the words of the lemmas on parity.
use Rattle.std.specs.Prelude.{◌≡◌, ℕ, zero, suc, ◌+◌, Bool, true, false, List, [], ◌∷◌, ℤ, ◌*ℤ◌}
use Rattle.std.specs.Prelude.{◌-ℤ◌}
use Rattle.plane.specs.declared.kinds.Point.{Point}
use Rattle.plane.specs.Faces.Cells.{is_positive}
use Rattle.plane.specs.Forms.Vectors.{Vector, point, Edge, sweep}
use Rattle.plane.specs.Faces.Parity.{flip, both, is_right, is_under}

-- p comes after z on the sweep
unfoldable pub is_after : ℤ → Point → Vector → Bool
is_after w p z = is_positive ((sweep w (point p) *ℤ z.n) -ℤ sweep w z)

-- the same along the sweep line
abbrev pub crosses_sweep : ℤ → Vector → Edge → Bool
crosses_sweep w z e = both (flip (is_after w e.low z)) (both (is_after w e.high z) (is_under e z))

-- between the vertical upwards from z and its sweep line upwards
abbrev pub in_wedge : ℤ → Vector → Point → Bool
in_wedge w z p = both (flip (is_right p z)) (is_after w p z)

-- so many elements pass the test
abbrev pub one_if : Bool → ℕ
one_if true = 1
one_if false = 0

abbrev pub tally : {X : Type 0} → (X → Bool) → List X → ℕ
tally p [] = 0
tally p (x ∷ xs) = one_if (p x) + tally p xs

abbrev pub Even : ℕ → Type 0
Even n = (k : ℕ) × (n ≡ k + k)

abbrev pub Odd : ℕ → Type 0
Odd n = (k : ℕ) × (n ≡ suc (k + k))

-- ---- numbers, and edges chosen by number
abbrev pub numbers_below : ℕ → List ℕ
numbers_below zero = []
numbers_below (suc m) = m ∷ numbers_below m
