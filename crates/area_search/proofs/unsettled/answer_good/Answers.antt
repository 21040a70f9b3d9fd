use Rattle.plane.specs.Rule.Plans.{plan}
use Rattle.area_search.specs.declared.kinds.AreaFinding.TheVariants.{On}
use Rattle.area_search.specs.Answers.{on}
use Rattle.area_search.specs.Grounds as by
use Rattle.area_search.proofs.Regions.{fault_found}
use Rattle.area_search.proofs.unsettled.answer_good.Goals as goal

pub returns-in-Some : goal.returns-in-Some
returns-in-Some c =
    let d = plan c.args.drawing.now in
    let t = c.args.drawing.now.tolerance in
    let p = c.in-Some.on in
    fault_found t d c.args.places.now c.without_regions.result (On p.point p.curve)
    c.without_regions.ensures
    (by.own (on p.point p.curve c.requires.pairs (rw c.in-Some.is at c.in_ok-on.ensures)) tt)
