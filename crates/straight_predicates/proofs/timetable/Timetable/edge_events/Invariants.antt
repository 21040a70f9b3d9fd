use Rattle.std.proofs.Common.{◌≡◌, length}
use Rattle.plane.specs.Runs.Timetables.{Timed}
use Rattle.straight_predicates.specs.EdgeEvents.{AreNoted}
use Rattle.straight_predicates.specs.Tables.{table_of}
use Rattle.straight_predicates.proofs.timetable.Timetable.edge_events.Given as goal

abbrev pub invariant-loop-k : goal.invariant-loop-k
invariant-loop-k l = record {
  low_count : length l.low.items ≡ length l.edges;
  high_count : length l.high.items ≡ length l.edges;
  low : AreNoted (λ (t : Timed). t.starting) (table_of l.self) l.k l.low.items;
  high : AreNoted (λ (t : Timed). t.ending) (table_of l.self) l.k l.high.items;
}
