-- Ends of edges that are packed into numbers.
use Rattle.std.specs.Prelude.{◌≡◌, ◌⊎◌, nat_eq, ℕ, ◌≤◌, ◌^◌, ◌/◌, ◌%◌, ℤ, pos, ◌+ℤ◌, ◌-ℤ◌}
use Rattle.std.specs.Int.{w64}
use Rattle.std.specs.Int.RustNames.{FitsSigned}
use Rattle.plane.specs.declared.kinds.Point.{Point}
use Rattle.plane.specs.Forms.Vectors.{Before}
use Rattle.straight_predicates.specs.declared.slots.End.{End}

-- The coordinate whose lifted difference from another one is this number.
abbrev pub moved : ℤ → ℕ → ℤ
moved origin n = origin +ℤ (pos n -ℤ pos (2 ^ 41))

-- The end that is packed into the number, relative to the origin.
abbrev pub end_of : Point → ℕ → End
end_of origin n =
    record {
      at = record {
        x = moved origin.x (n / 2 ^ 32 / 2 ^ 42);
        y = moved origin.y (n / 2 ^ 32 % 2 ^ 42);
      };
      edge = n % 2 ^ 32 / 2;
      starts = nat_eq (n % 2 ^ 32 % 2) 1;
    }

-- The coordinates of that end are numbers of 64 bits.
pub record IsInRange (origin : Point) (n : ℕ) : Type 0 where
  pub x : FitsSigned w64 (end_of origin n).at.x
  pub y : FitsSigned w64 (end_of origin n).at.y

-- By the point, and at one point by the edge's number, the one is not after the other.
abbrev pub IsNotAfter : End → End → Type 0
IsNotAfter y z = Before y.at z.at ⊎ ((y.at ≡ z.at) × (y.edge ≤ z.edge))
