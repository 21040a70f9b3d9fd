-- Straights that are bent beside an end.
-- Main lemma: `BentParts`, that the parts of a bent straight lie beside it.
-- Serves the law `bends`.
pub mod BendCircles
pub mod BendSizes
pub mod BentParts
