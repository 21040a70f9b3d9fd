use Rattle.plane.specs.Rule.Plans.{plan}
use Rattle.area_search.specs.Unsettled.MarkedPoints.{AreDecoded}
use Rattle.area_search.proofs.unsettled.marked_points.decoded.Given as goal

abbrev pub invariant-loop-code : goal.invariant-loop-code
invariant-loop-code l = AreDecoded (plan l.drawing) l.numbers l.codes l.code-index l.ons.items
