use Rattle.plane.specs.Rule.Plans.{plan}
use Rattle.level_breaks.proofs.BrokenPairs.{half_arcs_marked}
use Rattle.level_breaks.proofs.finding.first_break.Goals as goal

pub first_break_among-requires-clause-marked : goal.first_break_among-requires-clause-marked
first_break_among-requires-clause-marked c =
    half_arcs_marked (λ a b e f k n p q. (c.edges_of_straights.ensures.bad a b e f k n p q).0)
    (plan c.args.drawing.now) (λ n. c.args.level) c.requires.straights c.deref.result.now
    c.in_ok-marks.marks.items c.deref-2.result.now
    c.deref.ensures.value c.deref-2.ensures.value c.in_ok-marks.ensures
