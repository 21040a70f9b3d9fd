use Rattle.std.proofs.Common.{Option, sym, subst}
use Rattle.near_pairs.specs.Boxes.{box_of}
use Rattle.tubes.specs.declared.kinds.Tube.{Tube}
use Rattle.level_breaks.specs.Groups.{HoldsAll, corners}
use Rattle.level_breaks.proofs.LevelListing.{box_of_straight, box_of_tube}
use Rattle.level_breaks.proofs.listing.group_box.Goals as goal

pub returns-in-Some : goal.returns-in-Some
returns-in-Some c =
    let k = c.args.curve.now in
    let t = c.in-Some.tube in
    let a = box_of c.with_points.result in
    let b = box_of c.with_points-in-Some.result in
    subst (λ (u : Option Tube). HoldsAll b (corners k u)) (sym c.in-Some.is)
    (box_of_tube k t a b (subst (HoldsAll a) c.deref.ensures.value c.with_points.ensures.points)
    c.with_points-in-Some.ensures.kept
    (subst (HoldsAll b) c.deref-in-Some.ensures.value c.with_points-in-Some.ensures.points))

pub returns-in-None : goal.returns-in-None
returns-in-None c =
    let k = c.args.curve.now in
    let b = box_of c.grown.result in
    subst (λ (u : Option Tube). HoldsAll b (corners k u)) (sym c.in-None.is)
    (box_of_straight k (box_of c.around-in-None.result) b c.around-in-None.ensures
    c.grown.ensures.kept c.grown.ensures.point)
