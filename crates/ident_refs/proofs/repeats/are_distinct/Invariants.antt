use Rattle.ident_refs.proofs.NeighbouringKeys.{AreApartTo}
use Rattle.ident_refs.proofs.repeats.are_distinct.Given as goal

abbrev pub invariant-loop-place : goal.invariant-loop-place
invariant-loop-place l = AreApartTo l.keys l.sorted.ranked.items l.place
