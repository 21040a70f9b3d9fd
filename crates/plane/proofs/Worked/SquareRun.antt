-- A square with the corners (0, 0), (4, 0), (4, 4), (0, 4) and the chord from (0, 0) to (4, 4): its
-- steps are a complete run.
-- It has upright sides, three edges that start in one point, edges that end where another starts,
-- and three that end together.
use Rattle.std.proofs.Common.{ℕ, List, [], ◌∷◌, ℤ, pos, get_or, refl}
use Rattle.plane.specs.declared.kinds.Point.{Point}
use Rattle.plane.specs.Forms.Vectors.{Edge}
use Rattle.plane.specs.Runs.Steps.{Step, Run}
use Rattle.plane.specs.Faces.Parity.{same_point}
use Rattle.plane.proofs.Worked.RunTests.{run_by_test}

abbrev pub at_point : ℤ → ℤ → Point
at_point x y = record { x = x; y = y }

abbrev from_to : ℤ → ℤ → ℤ → ℤ → Edge
from_to a b c d = record { low = at_point a b; high = at_point c d }

abbrev edges : List Edge
edges =
    from_to (pos 0) (pos 0) (pos 4) (pos 0)
    ∷ from_to (pos 0) (pos 0) (pos 4) (pos 4)
    ∷ from_to (pos 0) (pos 0) (pos 0) (pos 4)
    ∷ from_to (pos 0) (pos 4) (pos 4) (pos 4)
    ∷ from_to (pos 4) (pos 0) (pos 4) (pos 4)
    ∷ []

abbrev pub edge : ℕ → Edge
edge e = get_or edges e (from_to (pos 0) (pos 0) (pos 1) (pos 0))

abbrev pub steps : List Step
steps =
    record {
      at = at_point (pos 0) (pos 0);
      below = [];
      ending = [];
      starting = 0 ∷ 1 ∷ 2 ∷ [];
      above = [];
    }
    ∷ record {
      at = at_point (pos 0) (pos 4);
      below = 0 ∷ 1 ∷ [];
      ending = 2 ∷ [];
      starting = 3 ∷ [];
      above = [];
    }
    ∷ record {
      at = at_point (pos 4) (pos 0);
      below = [];
      ending = 0 ∷ [];
      starting = 4 ∷ [];
      above = 1 ∷ 3 ∷ [];
    }
    ∷ record {
      at = at_point (pos 4) (pos 4);
      below = [];
      ending = 4 ∷ 1 ∷ 3 ∷ [];
      starting = [];
      above = [];
    }
    ∷ []

pub square_runs : Run 5 edge steps
unfolding same_point
square_runs = run_by_test 5 edge steps refl
