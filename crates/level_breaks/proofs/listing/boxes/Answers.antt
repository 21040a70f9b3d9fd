use Rattle.std.proofs.Common.{◌<◌, None, Option, arith, length, subst, ◌∙◌}
use Rattle.near_pairs.specs.Boxes.{box_of}
use Rattle.tubes.specs.DrawnEdges.{nth_curve}
use Rattle.tubes.specs.declared.kinds.Tube.{Tube}
use Rattle.level_breaks.specs.Groups.{HoldsAll, corners}
use Rattle.level_breaks.proofs.GroupEdges.{one_default}
use Rattle.level_breaks.proofs.LevelListing.{box_more}
use Rattle.level_breaks.proofs.listing.boxes.Goals as goal

pub loop-number-preserved : goal.loop-number-preserved
loop-number-preserved c =
    let n = c.loop-number.number in
    let size = c.requires in
    let l = c.loop-number-test.true in
    let there : n < length c.args.tubes.now = omega (arith, l, size) in
    let same = c.index-tubes-number.is ∙ one_default c.args.tubes.now n _ None there in
    box_more c.args.curves.now c.args.tubes.now n c.loop-number.boxes.items c.push.new.self.items
    c.group_box.result c.loop-number.invariant c.in_ok-push.ensures.items
    (subst (λ (t : Option Tube). HoldsAll (box_of c.group_box.result)
    (corners (nth_curve c.args.curves.now n) t)) same c.group_box.ensures)
