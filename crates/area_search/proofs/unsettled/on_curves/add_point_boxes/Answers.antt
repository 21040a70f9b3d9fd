use Rattle.std.proofs.Common.{refl}
use Rattle.area_search.proofs.UnsettledLemmas.MarkedNumbers.{point_box_more}
use Rattle.area_search.proofs.unsettled.on_curves.add_point_boxes.Goals as goal

pub loop-point-preserved : goal.loop-point-preserved
loop-point-preserved c =
    point_box_more c.args.points.now c.loop-point.point-index c.loop-point.boxes.items
    c.push.new.self.items _ c.loop-point.invariant c.in_ok-push.ensures.items refl
