-- The run of a drawing's straights.
use Rattle.std.specs.Prelude.{ℕ, [], length}
use Rattle.plane.specs.Rule.BadPairs.{IsBadPair}
use Rattle.plane.specs.Rule.Plans.{Plan, curve}
use Rattle.plane.specs.Runs.Moves.{Fit, steps_from}
use Rattle.plane.specs.Runs.Steps.{Run}
use Rattle.straight_predicates.specs.EdgeLists.{edge_of}
use Rattle.line_sweep.specs.declared.kinds.Swept.{Swept}
use Rattle.meetings.specs.CurvePairs.{AreBothStraight}
use Rattle.meetings.specs.StraightEdges.{AreStraightsTo}
use Rattle.meetings.specs.declared.edges.Straights.{Straights}
use Rattle.meetings.specs.declared.straight_runs.StraightRun.{StraightRun}
use Rattle.meetings.specs.declared.straight_runs.StraightRun.TheVariants as run

-- The edges are those of the drawing's straights, the events are a complete run over them, and no
-- two straights are bad.
pub record IsClearRun (d : Plan) (s : Straights) (w : Swept) : Type 0 where
  pub straights : AreStraightsTo d.curves (length d.curves) s.edges.items s.numbers.items
  pub run : Run (length s.edges.items) (edge_of s.edges.items)
      (steps_from [] w.events)
  pub fit : Fit [] w.events
  pub clear : (i j : ℕ) → AreBothStraight (curve d i) (curve d j) → IsBadPair d i j → ⊥

-- The run, or two straights that are bad.
abbrev pub IsStraightRun : Plan → StraightRun → Type 0
IsStraightRun d (run.Clear s w) = IsClearRun d s w
IsStraightRun d (run.Bad p) = IsBadPair d p.first p.second
