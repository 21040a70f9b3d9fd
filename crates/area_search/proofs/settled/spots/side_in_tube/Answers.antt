use Rattle.std.proofs.Common.{◌^◌, ap, subst, sym}
use Rattle.plane.specs.Rule.HalfArcs.{HalfArc}
use Rattle.plane.specs.Rule.Curves.{arc}
use Rattle.plane.specs.Rule.Turns.{AreNear}
use Rattle.plane.specs.declared.kinds.Point.{Point}
use Rattle.area_search.proofs.SettledLemmas.ArcReach.{near_from}
use Rattle.area_search.proofs.settled.spots.side_in_tube.Goals as goal

pub place_of-requires : goal.place_of-requires
place_of-requires c =
    subst (λ (p : Point). AreNear (2 ^ 32) p c.args.at)
    (sym (ap (λ (h : HalfArc). h.from) c.in-Some.ensures))
    (near_from (arc c.args.half_arc.now) c.args.at c.requires.side)
