use Rattle.level_breaks.proofs.SameCurves.{breaks_copy}
use Rattle.level_breaks.proofs.laws.breaks_are_of_curves.Goals as goal

pub returns : goal.returns
returns c d e level i j a b ta tb ci cj n m h = breaks_copy d e level i j a b ta tb ci cj n m h
