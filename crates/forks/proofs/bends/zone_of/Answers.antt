use Rattle.plane.specs.Rule.Plans.{curve, plan}
use Rattle.std.proofs.Common.{rules, FitsSigned, w64, to_z-of_z, subst}
use Rattle.plane.specs.declared.kinds.Curve.{Curve}
use Rattle.forks.specs.Zones.{IsZoneOf}
use Rattle.forks.proofs.LeastBends.{in_reach}
use Rattle.forks.proofs.bends.zone_of.Goals as goal

pub fork_zone-requires-clause-reach : goal.fork_zone-requires-clause-reach
fork_zone-requires-clause-reach c =
    let w = c.args.drawing.now.window in
    in_reach w.low w.high _ _ w.narrow w.low_digits w.high_digits c.curve_of-half_arc.ensures.drawn
    c.curve_of-straight.ensures.drawn

pub returns : goal.returns
returns c =
    let t : FitsSigned w64 c.args.drawing.now.tolerance = search rules in
    let h = simp to_z-of_z at c.fork_zone.ensures.zone in
    subst (λ (x : Curve). IsZoneOf c.args.drawing.now.tolerance x
    (curve (plan c.args.drawing.now) c.args.number) c.fork_zone.result)
    c.curve_of-half_arc.ensures.is
    (subst (λ (y : Curve). IsZoneOf c.args.drawing.now.tolerance c.curve_of-half_arc.result y
    c.fork_zone.result) c.curve_of-straight.ensures.is h)
