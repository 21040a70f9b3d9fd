-- How far a sweep has come.
use Rattle.std.specs.Prelude.{◌≡◌, ℕ, List, [], length, map, drop}
use Rattle.plane.specs.declared.kinds.Point.{Point}
use Rattle.plane.specs.declared.kinds.Edge.{Edge}
use Rattle.plane.specs.Runs.Gaps.{Gap, open_gaps, closed_gaps}
use Rattle.plane.specs.Runs.Moves.{Move, Fit, live_from, made, steps_from}
use Rattle.plane.specs.Runs.Sweeps.{IsUnderWay}
use Rattle.plane.specs.Runs.Timetables.{IsTimetable, Timed, moves_at}
use Rattle.slab.specs.Slab.{Slab}
use Rattle.straight_predicates.specs.EdgeLists.{edge_of}
use Rattle.line_sweep.specs.declared.kinds.Cell.{Cell}
use Rattle.line_sweep.specs.declared.state.State.{State}
use Rattle.line_sweep.specs.Held.{IsHeld}
use Rattle.line_sweep.specs.Kinds.{ended_at, gaps_of, moves_at_blocks}

-- The points of the events.
abbrev pub points_of : List Timed → List Point
points_of table = map (λ (t : Timed). t.at) table

-- The first k events are done: the sweep is under way, the live list and the open cells are those
-- that the moves leave, and the cells that closed and the edges that ended are those of the moves.
pub record IsSweptTo (edges : List Edge) (table : List Timed) (k : ℕ) (live keys ended : List ℕ)
    (slab : Slab Cell) (moves : List Move) (written : List Gap) : Type 0 where
  pub size : length moves ≡ k
  pub way : IsUnderWay (length edges) (edge_of edges) (points_of table) (made [] moves)
      (drop k (points_of table))
  pub fit : Fit [] moves
  pub lives : live ≡ live_from [] moves
  pub held : IsHeld slab keys (open_gaps moves)
  pub closed : written ≡ closed_gaps moves
  pub endings : ended ≡ ended_at (steps_from [] moves)

-- The same of what the program keeps.
abbrev pub HasSwept : List Edge → List Timed → ℕ → State → Type 0
HasSwept edges table k s =
    IsSweptTo edges table k s.live s.keys s.ended.items s.open_cells
    (moves_at_blocks table s.blocks.items) (gaps_of s.cells.items)

-- The moves are those of the timetable of the edges, each at its place of the live list.
pub record HasTimetable (edges : List Edge) (moves : List Move) : Type 0 where
  pub table : List Timed
  pub is_table : IsTimetable (length edges) (edge_of edges) table
  pub size : length table ≡ length moves
  pub is : moves ≡ moves_at table (map (λ (v : Move). v.position) moves)
