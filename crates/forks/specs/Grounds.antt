-- What a certificate is of: a drawing itself, or what becomes of it when its forks are bent.
use Rattle.std.specs.Prelude.{◌≡◌, ℕ, ℤ, Bool, true, false, List, length}
use Rattle.std.specs.List.{range_with_len}
use Rattle.plane.specs.Rule.Plans.{Plan}
use Rattle.forks.specs.Bent.{IsBentOf}

-- With an overlap of t units g is the drawing itself, or what becomes of it; the origin of each of
-- its curves is the number of the curve of d that it is or is a part of.
pub data IsGround (t : ℤ) (d : Plan) (is_bent : Bool) (g : Plan) (origin : List ℕ) : Type 0 where
  own : is_bent ≡ false → g ≡ d → origin ≡ range_with_len 0 (length d.curves)
      → IsGround t d is_bent g origin
  bent : is_bent ≡ true → IsBentOf t d g origin → IsGround t d is_bent g origin
