-- Events and cells without where they lie in memory.
use Rattle.std.specs.Prelude.{◌≡◌, ℕ, ◌<◌, ◌≤◌, ◌-◌, ⊤, List, [], ◌∷◌, ◌++◌, length, map}
use Rattle.std.specs.Prelude.{slice_index_or}
use Rattle.plane.specs.declared.kinds.Edge.{Edge}
use Rattle.plane.specs.declared.kinds.Point.{Point}
use Rattle.plane.specs.Forms.Meets.{Bad}
use Rattle.plane.specs.Forms.Vectors.{Before}
use Rattle.plane.specs.Runs.Moves.{Move, no_move, steps_from}
use Rattle.plane.specs.Runs.Gaps.{Gap}
use Rattle.plane.specs.Runs.Steps.{Step}
use Rattle.plane.specs.Runs.Timetables.{Timed}
use Rattle.straight_predicates.specs.EdgeLists.{edge_of}
use Rattle.line_sweep.specs.declared.events.EndingBlock.{EndingBlock}
use Rattle.line_sweep.specs.declared.events.Event.{Event}
use Rattle.line_sweep.specs.declared.kinds.Cell.{Cell}
use Rattle.line_sweep.specs.declared.kinds.SweepRefusal.{SweepRefusal}
use Rattle.line_sweep.specs.declared.kinds.SweepRefusal.TheVariants as refusal

abbrev pub move_of : Event → Move
move_of v =
    record { at = v.at; position = v.position; ending = v.ending; starting = v.starting.now }

-- The event of a timetable, with its place in the live list.
abbrev pub move_at_block : Timed → ℕ → ℕ → Move
move_at_block t p n = record { at = t.at; position = p; ending = n; starting = t.starting }

-- The events of a timetable, each with its block, as far as there are both.
abbrev pub moves_at_blocks : List Timed → List EndingBlock → List Move
moves_at_blocks [] blocks = []
moves_at_blocks (t ∷ table) [] = []
moves_at_blocks (t ∷ table) (b ∷ blocks) =
    move_at_block t b.position b.count ∷ moves_at_blocks table blocks

-- The edges that end, step by step, from below.
abbrev pub ended_at : List Step → List ℕ
ended_at [] = []
ended_at (s ∷ steps) = s.ending ++ ended_at steps

-- Each event of the timetable has its block, and these edges end, event by event, from below.
pub record AreEvents (table : List Timed) (blocks : List EndingBlock)
    (ended : List ℕ) : Type 0 where
  pub sizes : length table ≤ length blocks
  pub endings : ended ≡ ended_at (steps_from [] (moves_at_blocks table blocks))

-- The event before that number comes before the point, and the one of that number does not. In a
-- list whose events are in order there is one such number: that of the first event which does not
-- come before the point, or that of all events.
pub record IsFirstFrom (moves : List Move) (at : Point) (n : ℕ) : Type 0 where
  pub within : n ≤ length moves
  pub earlier : 0 < n → Before (slice_index_or moves (n - 1) no_move).at at
  pub rest : n < length moves → Before (slice_index_or moves n no_move).at at → ⊥

abbrev pub gap_of : Cell → Gap
gap_of c = record { lower = c.lower; upper = c.upper; event = c.event }

abbrev pub gaps_of : List Cell → List Gap
gaps_of cells = map gap_of cells

-- The two edges are different edges of the list, and bad.
pub record AreBad (edges : List Edge) (a b : ℕ) : Type 0 where
  pub first : a < length edges
  pub second : b < length edges
  pub differ : a ≡ b → ⊥
  pub bad : Bad (edge_of edges a) (edge_of edges b)

-- What a refusal shows.
abbrev pub IsRefused : List Edge → SweepRefusal → Type 0
IsRefused edges (refusal.Bad a b) = AreBad edges a b
IsRefused edges refusal.Memory = ⊤
