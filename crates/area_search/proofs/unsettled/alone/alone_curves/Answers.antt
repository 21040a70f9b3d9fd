use Rattle.plane.specs.Rule.Plans.{plan}
use Rattle.area_search.proofs.UnsettledLemmas.AloneCurves.{apart_at_first}
use Rattle.area_search.proofs.unsettled.alone.alone_curves.Goals as goal

pub still_alone-requires-clause-apart : goal.still_alone-requires-clause-apart
still_alone-requires-clause-apart c =
    apart_at_first (plan c.args.drawing.now) c.args.aside.now c.in_ok-first.first.items
    c.in_ok-first.ensures c.requires.marked
