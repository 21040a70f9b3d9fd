use Rattle.tubes.specs.Corners.{IsLeastShared}
use Rattle.tubes.proofs.corners.first_shared.Given as goal

abbrev pub invariant-loop-e : goal.invariant-loop-e
invariant-loop-e l = IsLeastShared l.owners l.tubes l.low l.high l.events l.e l.first
