use Rattle.straight_predicates.specs.PackedEnds.{ends_in}
use Rattle.straight_predicates.proofs.EndRuns.{AreCopied}
use Rattle.straight_predicates.proofs.events.copy_group.Given as goal

abbrev pub invariant-loop-n : goal.invariant-loop-n
invariant-loop-n l = AreCopied (ends_in l.ends) l.group.items l.from l.n l.at
