use Rattle.area_search.specs.Settled.CaseRoots.{AreChains}
use Rattle.area_search.proofs.settled.case_roots.chains_of.Given as goal

abbrev pub invariant-loop-point : goal.invariant-loop-point
invariant-loop-point l = AreChains l.spots l.point l.curves l.chains
