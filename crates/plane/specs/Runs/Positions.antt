-- A step from the live list and a position in it, and the turn of a point over an edge by its
-- number.
-- A program that keeps the live list as a list speaks in these words.
use Rattle.std.specs.Prelude.{ℕ, ℤ, List, take, drop}
use Rattle.plane.specs.declared.kinds.Point.{Point}
use Rattle.plane.specs.declared.kinds.Edge.{Edge}
use Rattle.plane.specs.Rule.Turns.{cross}
use Rattle.plane.specs.Runs.Steps.{Step}

-- The step at v: after p edges of the live list the next n end, and `starting` take their place.
abbrev pub step_at : Point → List ℕ → ℕ → ℕ → List ℕ → Step
step_at v now p n starting =
    record {
      at = v;
      below = take p now;
      ending = take n (drop p now);
      starting = starting;
      above = drop n (drop p now);
    }

-- Above 0 where the point is strictly above the edge numbered e, below 0 where it is strictly
-- below.
abbrev pub turn_at : (ℕ → Edge) → ℕ → Point → ℤ
turn_at E e v = cross (E e).low (E e).high v
