use Rattle.std.proofs.Common.{ap, sym, ◌∙◌}
use Rattle.plane.specs.Rule.Plans.{plan}
use Rattle.plane.specs.declared.kinds.Curve.{Curve}
use Rattle.forks.proofs.ForkedLists.{alone_more, half_arc_alone}
use Rattle.forks.proofs.LeastBends.{curve_is}
use Rattle.forks.proofs.forked.add_curve.Goals as goal

pub returns-in-HalfArc : goal.returns-in-HalfArc
returns-in-HalfArc c =
    let w = c.args.drawing.now in
    let is = curve_is (plan w) c.args.number c.index.result.now c.requires.there c.index.ensures in
    alone_more w.tolerance (plan w) c.args.number c.args.forked.now c.requires.forked
    (half_arc_alone w.tolerance (plan w) c.args.number (ap (λ (x : Curve). x.kind) (sym is)
    ∙ c.in-HalfArc.is))
