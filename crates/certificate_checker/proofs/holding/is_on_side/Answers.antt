use Rattle.std.proofs.Common.{ap, sym, subst, ◌^◌}
use Rattle.plane.specs.Rule.Curves.{arc}
use Rattle.plane.specs.Rule.HalfArcs.{HalfArc}
use Rattle.plane.specs.Rule.Turns.{AreNear}
use Rattle.plane.specs.declared.kinds.Point.{Point}
use Rattle.certificate_checker.proofs.HeldPoints.{sided_near}
use Rattle.certificate_checker.proofs.holding.is_on_side.Goals as goal

pub place_of-side-requires : goal.place_of-side-requires
place_of-side-requires c =
    subst (λ (s : Point). AreNear (2 ^ 32) s c.args.at)
    (sym (ap (λ (h : HalfArc). h.from) c.in-Some.ensures))
    (sided_near (arc c.args.curve.now) c.args.at c.requires)
