-- A ring between two squares, with a triangle as an island in its hole and a dangling edge: its
-- steps are a complete run.
-- The outer square has the sides at 0 and 12, the hole those at 2 and 10; the edge from (10, 10) to
-- (11, 11) ends in no other.
use Rattle.std.proofs.Common.{ℕ, List, [], ◌∷◌, ℤ, pos, get_or, refl}
use Rattle.plane.specs.declared.kinds.Point.{Point}
use Rattle.plane.specs.Forms.Vectors.{Edge}
use Rattle.plane.specs.Runs.Steps.{Step, Run}
use Rattle.plane.specs.Faces.Parity.{same_point}
use Rattle.plane.proofs.Worked.RunTests.{run_by_test}

abbrev pub at_point : ℤ → ℤ → Point
at_point x y = record { x = x; y = y }

abbrev from_to : ℤ → ℤ → ℤ → ℤ → Edge
from_to a b c d = record { low = at_point a b; high = at_point c d }

abbrev edges : List Edge
edges =
    from_to (pos 0) (pos 0) (pos 12) (pos 0)
    ∷ from_to (pos 0) (pos 0) (pos 0) (pos 12)
    ∷ from_to (pos 0) (pos 12) (pos 12) (pos 12)
    ∷ from_to (pos 12) (pos 0) (pos 12) (pos 12)
    ∷ from_to (pos 2) (pos 2) (pos 10) (pos 2)
    ∷ from_to (pos 2) (pos 2) (pos 2) (pos 10)
    ∷ from_to (pos 2) (pos 10) (pos 10) (pos 10)
    ∷ from_to (pos 10) (pos 2) (pos 10) (pos 10)
    ∷ from_to (pos 4) (pos 4) (pos 8) (pos 4)
    ∷ from_to (pos 4) (pos 4) (pos 6) (pos 8)
    ∷ from_to (pos 6) (pos 8) (pos 8) (pos 4)
    ∷ from_to (pos 10) (pos 10) (pos 11) (pos 11)
    ∷ []

abbrev pub edge : ℕ → Edge
edge e = get_or edges e (from_to (pos 0) (pos 0) (pos 1) (pos 0))

abbrev pub steps : List Step
steps =
    record {
      at = at_point (pos 0) (pos 0);
      below = [];
      ending = [];
      starting = 0 ∷ 1 ∷ [];
      above = [];
    }
    ∷ record {
      at = at_point (pos 0) (pos 12);
      below = 0 ∷ [];
      ending = 1 ∷ [];
      starting = 2 ∷ [];
      above = [];
    }
    ∷ record {
      at = at_point (pos 2) (pos 2);
      below = 0 ∷ [];
      ending = [];
      starting = 4 ∷ 5 ∷ [];
      above = 2 ∷ [];
    }
    ∷ record {
      at = at_point (pos 2) (pos 10);
      below = 0 ∷ 4 ∷ [];
      ending = 5 ∷ [];
      starting = 6 ∷ [];
      above = 2 ∷ [];
    }
    ∷ record {
      at = at_point (pos 4) (pos 4);
      below = 0 ∷ 4 ∷ [];
      ending = [];
      starting = 8 ∷ 9 ∷ [];
      above = 6 ∷ 2 ∷ [];
    }
    ∷ record {
      at = at_point (pos 6) (pos 8);
      below = 0 ∷ 4 ∷ 8 ∷ [];
      ending = 9 ∷ [];
      starting = 10 ∷ [];
      above = 6 ∷ 2 ∷ [];
    }
    ∷ record {
      at = at_point (pos 8) (pos 4);
      below = 0 ∷ 4 ∷ [];
      ending = 8 ∷ 10 ∷ [];
      starting = [];
      above = 6 ∷ 2 ∷ [];
    }
    ∷ record {
      at = at_point (pos 10) (pos 2);
      below = 0 ∷ [];
      ending = 4 ∷ [];
      starting = 7 ∷ [];
      above = 6 ∷ 2 ∷ [];
    }
    ∷ record {
      at = at_point (pos 10) (pos 10);
      below = 0 ∷ [];
      ending = 7 ∷ 6 ∷ [];
      starting = 11 ∷ [];
      above = 2 ∷ [];
    }
    ∷ record {
      at = at_point (pos 11) (pos 11);
      below = 0 ∷ [];
      ending = 11 ∷ [];
      starting = [];
      above = 2 ∷ [];
    }
    ∷ record {
      at = at_point (pos 12) (pos 0);
      below = [];
      ending = 0 ∷ [];
      starting = 3 ∷ [];
      above = 2 ∷ [];
    }
    ∷ record {
      at = at_point (pos 12) (pos 12);
      below = [];
      ending = 3 ∷ 2 ∷ [];
      starting = [];
      above = [];
    }
    ∷ []

pub ring_runs : Run 12 edge steps
unfolding same_point
ring_runs = run_by_test 12 edge steps refl
