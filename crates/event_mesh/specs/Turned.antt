-- Meshes whose vertices are the events of steps, while the events are turned one after another.
use Rattle.std.specs.Prelude.{◌≡◌, ℕ, ◌*◌, ◌<◌, ◌≤◌, List, length, map, take, drop, get_or}
use Rattle.plane.specs.declared.kinds.Point.{Point}
use Rattle.plane.specs.declared.kinds.Edge.{Edge}
use Rattle.plane.specs.Runs.Steps.{Step, GoodStep}
use Rattle.plane.specs.Runs.Moves.{Move}
use Rattle.plane.specs.Faces.Halves.{Half, edge_of, number}
use Rattle.plane.specs.Faces.Directions.{origin}
use Rattle.plane.specs.Faces.FanNumbers.{fan_numbers}
use Rattle.plane.specs.Faces.Replays.{no_step}
use Rattle.half_edges.specs.HalfEdges.{HalfEdges, size, origin_of}
use Rattle.half_edges.specs.Stars.{IsStar, TurnsThrough, center, turned}

abbrev pub nth_step : List Step → ℕ → Step
nth_step steps k = get_or steps k no_step

abbrev pub points_of : List Step → List Point
points_of steps = map (λ (s : Step). s.at) steps

-- the event with this number lies at the point
pub record IsEventAt (steps : List Step) (k : ℕ) (at : Point) : Type 0 where
  pub within : k < length steps
  pub point : (nth_step steps k).at ≡ at

-- the half-edges of the event are those that begin at its vertex, and the turn about it goes
-- through them clockwise
pub record IsTurnedAt (mesh : HalfEdges) (k : ℕ) (around : List ℕ) : Type 0 where
  pub star : IsStar mesh around
  pub event : center mesh around ≡ k
  pub turns : TurnsThrough mesh around

-- two half-edges for each edge, which begin at the events of its ends; the first k events are
-- turned, and no half-edge that begins at a later one was linked with another yet
pub record IsTurned (m : ℕ) (E : ℕ → Edge) (steps : List Step) (mesh : HalfEdges)
    (k : ℕ) : Type 0 where
  pub count : size mesh ≡ 2 * m
  pub begins : (h : Half) → edge_of h < m → IsEventAt steps (origin_of mesh (number h)) (origin E h)
  pub stars : (j : ℕ) → j < k → IsTurnedAt mesh j (fan_numbers (nth_step steps j))
  pub loose : (h : ℕ) → h < size mesh → k ≤ origin_of mesh h → turned mesh h ≡ h

-- the event with this number is a good step, at which these edges start and end
pub record IsEvent (m : ℕ) (E : ℕ → Edge) (steps : List Step) (k : ℕ)
    (begun ended : List ℕ) : Type 0 where
  pub within : k < length steps
  pub good : GoodStep m E (nth_step steps k)
  pub starting : (nth_step steps k).starting ≡ begun
  pub ending : (nth_step steps k).ending ≡ ended

-- the edges of the live list that end by the move, from bottom to top
abbrev pub ending_at : List ℕ → Move → List ℕ
ending_at now v = take v.ending (drop v.position now)
