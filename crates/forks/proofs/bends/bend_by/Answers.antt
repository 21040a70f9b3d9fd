use Rattle.std.proofs.Common.{rules, subst, ◌≡◌, false}
use Rattle.plane.specs.Rule.Plans.{curve, plan}
use Rattle.forks.specs.Zones.{IsZoneOf}
use Rattle.forks.proofs.LeastBends.{no_zone, outside, refused}
use Rattle.forks.proofs.bends.bend_by.Goals as goal

pub returns-in-None : goal.returns-in-None
returns-in-None c =
    let d = plan c.args.drawing.now in
    let h = c.zone_of.ensures in
    no_zone c.args.drawing.now.tolerance d c.args.number c.args.at_from c.args.arc
    (subst (IsZoneOf c.args.drawing.now.tolerance (curve d c.args.arc) (curve d c.args.number))
    c.in-None.is h)

pub returns-then-not-is_inside : goal.returns-then-not-is_inside
returns-then-not-is_inside c =
    let d = plan c.args.drawing.now in
    let h = c.zone_of.ensures in
    let n : c.is_inside.result ≡ false = search rules in
    outside c.args.drawing.now.tolerance d c.args.number c.args.at_from c.args.arc c.in-Some.zone
    (subst (IsZoneOf c.args.drawing.now.tolerance (curve d c.args.arc) (curve d c.args.number))
    c.in-Some.is h) (λ i. refused c.is_inside.result n (c.is_inside.ensures.1 i))
