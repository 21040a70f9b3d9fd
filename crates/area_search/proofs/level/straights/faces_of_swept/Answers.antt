use Rattle.std.proofs.Common.{sym, ◌∙◌}
use Rattle.plane.specs.Rule.Plans.{plan}
use Rattle.area_search.proofs.level.straights.faces_of_swept.Goals as goal

pub faces_of_run-requires-clause-drawn : goal.faces_of_run-requires-clause-drawn
faces_of_run-requires-clause-drawn c =
    let d = plan c.args.drawing.now in
    sym c.requires.list.edges
    ∙ c.edges_of_tubed_drawing.ensures.straights d (λ n. 0) c.args.list c.requires.list
    c.requires.straights

pub unreachable-requires : goal.unreachable-requires
unreachable-requires c = c.in_ok-facings.ensures.unsettled c.in-None.is c.requires.settled
