-- How many events the drawing of an area has.
use Rattle.std.specs.Prelude.{◌≡◌, ℕ, List, length}
use Rattle.plane.specs.Rule.Plans.{Plan}
use Rattle.plane.specs.Runs.Timetables.{Timed, IsTimetable}
use Rattle.tubes.specs.Settled.{edge_at, edges_at}

-- the number of places at which edges of the drawing at the level begin or end
pub record HasEvents (d : Plan) (level n : ℕ) : Type 0 where
  pub table : List Timed
  pub is_table : IsTimetable (length (edges_at d (λ n. level))) (edge_at d (λ n. level)) table
  pub count : n ≡ length table
