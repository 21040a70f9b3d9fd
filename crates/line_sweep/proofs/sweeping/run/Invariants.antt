use Rattle.straight_predicates.specs.Tables.{table_of}
use Rattle.line_sweep.specs.Sweeping.{HasSwept}
use Rattle.line_sweep.proofs.sweeping.run.Given as goal

abbrev pub invariant-loop-event : goal.invariant-loop-event
invariant-loop-event l = HasSwept l.edges (table_of l.table) l.event l.state
