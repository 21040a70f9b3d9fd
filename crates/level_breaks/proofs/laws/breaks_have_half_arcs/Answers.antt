use Rattle.level_breaks.proofs.BrokenPairs.{one_is_half_arc}
use Rattle.level_breaks.proofs.laws.breaks_have_half_arcs.Goals as goal

pub returns : goal.returns
returns c d level i j none h =
    one_is_half_arc (λ s t a b e f p q. (c.edges_of_straights.ensures.bad s t a b e f p q).0) d
    level none i j h
