use Rattle.std.proofs.Common.{subst}
use Rattle.plane.specs.Rule.Plans.{plan}
use Rattle.forks.specs.Ends.{IsBendBy}
use Rattle.forks.proofs.LeastBends.{lesser_none, lesser_some}
use Rattle.forks.proofs.bends.lesser.Goals as goal

pub returns-in-Some : goal.returns-in-Some
returns-in-Some c =
    let d = plan c.args.drawing.now in
    let h = c.bend_by.ensures in
    lesser_some c.args.drawing.now.tolerance d c.args.number c.args.at_from c.args.arc c.in-Some.at
    (subst (IsBendBy c.args.drawing.now.tolerance d c.args.number c.args.at_from c.args.arc)
    c.in-Some.is h) c.args.best c.lesser_bend.result c.lesser_bend.ensures

pub returns-in-None : goal.returns-in-None
returns-in-None c =
    let d = plan c.args.drawing.now in
    let h = c.bend_by.ensures in
    lesser_none c.args.drawing.now.tolerance d c.args.number c.args.at_from c.args.arc c.args.best
    (subst (IsBendBy c.args.drawing.now.tolerance d c.args.number c.args.at_from c.args.arc)
    c.in-None.is h)
