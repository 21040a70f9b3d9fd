use Rattle.event_mesh.specs.Fans.{IsOver}
use Rattle.event_mesh.proofs.turning.write_over.Given as goal

abbrev pub invariant-loop-i : goal.invariant-loop-i
invariant-loop-i l = IsOver l.starting l.fan l.i
