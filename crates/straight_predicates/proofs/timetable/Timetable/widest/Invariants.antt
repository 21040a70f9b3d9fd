use Rattle.straight_predicates.specs.EdgeEvents.{IsWidest}
use Rattle.straight_predicates.specs.Tables.{table_of}
use Rattle.straight_predicates.proofs.timetable.Timetable.widest.Given as goal

abbrev pub invariant-loop-k : goal.invariant-loop-k
invariant-loop-k l = IsWidest (table_of l.self) l.k l.most
