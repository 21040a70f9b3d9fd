-- A set of numbers, with a flag for each.
use Rattle.std.specs.Prelude.{◌≡◌, ℕ, Bool, true, false, List, [], ◌∷◌, if◌then◌else◌, nat_eq}
use Rattle.std.specs.Prelude.{get_or}

-- the number is one of these
abbrev pub has_number : ℕ → List ℕ → Bool
has_number n [] = false
has_number n (m ∷ ms) = if nat_eq m n then true else has_number n ms

-- the flag of each of these numbers is set, and no other
abbrev pub AreFlags : List ℕ → List Bool → Type 0
AreFlags numbers flags = (n : ℕ) → get_or flags n false ≡ has_number n numbers
