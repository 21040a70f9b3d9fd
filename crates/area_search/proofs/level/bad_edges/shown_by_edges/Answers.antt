use Rattle.plane.specs.Rule.Plans.{plan}
use Rattle.area_search.proofs.LevelLemmas.LevelSearch.{pair_there}
use Rattle.area_search.proofs.level.bad_edges.shown_by_edges.Goals as goal

pub shown_by_curves-requires : goal.shown_by_curves-requires
shown_by_curves-requires c =
    pair_there (plan c.args.drawing.now) c.args.owners.now c.args.first c.args.second
    c.curve_at.result c.curve_at-2.result c.in-Some.pair c.requires.curves c.requires.first
    c.requires.second c.curve_at.ensures c.curve_at-2.ensures
    (rw c.in-Some.is at c.in_order.ensures.order)
    (rw c.in-Some.is at c.in_order.ensures.second)
