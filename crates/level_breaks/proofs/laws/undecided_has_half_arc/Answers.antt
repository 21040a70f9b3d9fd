use Rattle.level_breaks.proofs.BrokenPairs.{no_bad_straights, one_is_half_arc}
use Rattle.level_breaks.proofs.laws.undecided_has_half_arc.Goals as goal

pub returns : goal.returns
returns c d level i j none h =
    one_is_half_arc (λ s t a b e f p q. (c.edges_of_straights.ensures.bad s t a b e f p q).0) d
    level (no_bad_straights d none) i j h
