use Rattle.area_search.specs.Settled.Meshing.{IsWidest}
use Rattle.area_search.proofs.settled.meshing.widest.Given as goal

abbrev pub invariant-loop-number : goal.invariant-loop-number
invariant-loop-number l = IsWidest l.events l.number l.most
