-- The circle with radius 10000 round (500000, 500000), as four half arcs with their tubes of level
-- 0: its steps are a complete run.
use Rattle.std.proofs.Common.{ℕ, List, [], ◌∷◌, pos, get_or, refl}
use Rattle.plane.specs.declared.kinds.Point.{Point}
use Rattle.plane.specs.Forms.Vectors.{Edge}
use Rattle.plane.specs.Runs.Steps.{Step, Run}
use Rattle.plane.specs.Faces.Parity.{same_point}
use Rattle.plane.proofs.Worked.RunTests.{run_by_test}

abbrev pub at_point : ℕ → ℕ → Point
at_point x y = record { x = pos x; y = pos y }

abbrev pub from_to : ℕ → ℕ → ℕ → ℕ → Edge
from_to a b c d = record { low = at_point a b; high = at_point c d }

-- for each half arc two inner edges, then three outer ones
abbrev edges : List Edge
edges =
    from_to 507071 507071 510000 500000
    ∷ from_to 500000 510000 507071 507071
    ∷ from_to 510000 500000 510301 504266
    ∷ from_to 504266 510301 510301 504266
    ∷ from_to 500000 510000 504266 510301
    ∷ from_to 492929 507070 500000 510000
    ∷ from_to 490000 500000 492929 507070
    ∷ from_to 495731 510303 500000 510000
    ∷ from_to 489698 504266 495731 510303
    ∷ from_to 489698 504266 490000 500000
    ∷ from_to 490000 500000 492929 492929
    ∷ from_to 492929 492929 500000 490000
    ∷ from_to 489700 495733 490000 500000
    ∷ from_to 489700 495733 495733 489700
    ∷ from_to 495733 489700 500000 490000
    ∷ from_to 500000 490000 507070 492929
    ∷ from_to 507070 492929 510000 500000
    ∷ from_to 500000 490000 504266 489698
    ∷ from_to 504266 489698 510303 495731
    ∷ from_to 510000 500000 510303 495731
    ∷ []

abbrev pub edge : ℕ → Edge
edge e = get_or edges e (from_to 0 0 1 0)

abbrev pub steps : List Step
steps =
    record {
      at = at_point 489698 504266;
      below = [];
      ending = [];
      starting = 9 ∷ 8 ∷ [];
      above = [];
    }
    ∷ record {
      at = at_point 489700 495733;
      below = [];
      ending = [];
      starting = 13 ∷ 12 ∷ [];
      above = 9 ∷ 8 ∷ [];
    }
    ∷ record {
      at = at_point 490000 500000;
      below = 13 ∷ [];
      ending = 12 ∷ 9 ∷ [];
      starting = 10 ∷ 6 ∷ [];
      above = 8 ∷ [];
    }
    ∷ record {
      at = at_point 492929 492929;
      below = 13 ∷ [];
      ending = 10 ∷ [];
      starting = 11 ∷ [];
      above = 6 ∷ 8 ∷ [];
    }
    ∷ record {
      at = at_point 492929 507070;
      below = 13 ∷ 11 ∷ [];
      ending = 6 ∷ [];
      starting = 5 ∷ [];
      above = 8 ∷ [];
    }
    ∷ record {
      at = at_point 495731 510303;
      below = 13 ∷ 11 ∷ 5 ∷ [];
      ending = 8 ∷ [];
      starting = 7 ∷ [];
      above = [];
    }
    ∷ record {
      at = at_point 495733 489700;
      below = [];
      ending = 13 ∷ [];
      starting = 14 ∷ [];
      above = 11 ∷ 5 ∷ 7 ∷ [];
    }
    ∷ record {
      at = at_point 500000 490000;
      below = [];
      ending = 14 ∷ 11 ∷ [];
      starting = 17 ∷ 15 ∷ [];
      above = 5 ∷ 7 ∷ [];
    }
    ∷ record {
      at = at_point 500000 510000;
      below = 17 ∷ 15 ∷ [];
      ending = 5 ∷ 7 ∷ [];
      starting = 1 ∷ 4 ∷ [];
      above = [];
    }
    ∷ record {
      at = at_point 504266 489698;
      below = [];
      ending = 17 ∷ [];
      starting = 18 ∷ [];
      above = 15 ∷ 1 ∷ 4 ∷ [];
    }
    ∷ record {
      at = at_point 504266 510301;
      below = 18 ∷ 15 ∷ 1 ∷ [];
      ending = 4 ∷ [];
      starting = 3 ∷ [];
      above = [];
    }
    ∷ record {
      at = at_point 507070 492929;
      below = 18 ∷ [];
      ending = 15 ∷ [];
      starting = 16 ∷ [];
      above = 1 ∷ 3 ∷ [];
    }
    ∷ record {
      at = at_point 507071 507071;
      below = 18 ∷ 16 ∷ [];
      ending = 1 ∷ [];
      starting = 0 ∷ [];
      above = 3 ∷ [];
    }
    ∷ record {
      at = at_point 510000 500000;
      below = 18 ∷ [];
      ending = 16 ∷ 0 ∷ [];
      starting = 19 ∷ 2 ∷ [];
      above = 3 ∷ [];
    }
    ∷ record {
      at = at_point 510301 504266;
      below = 18 ∷ 19 ∷ [];
      ending = 2 ∷ 3 ∷ [];
      starting = [];
      above = [];
    }
    ∷ record {
      at = at_point 510303 495731;
      below = [];
      ending = 18 ∷ 19 ∷ [];
      starting = [];
      above = [];
    }
    ∷ []

pub circle_runs : Run 20 edge steps
unfolding same_point
circle_runs = run_by_test 20 edge steps refl
