use Rattle.std.proofs.Common.{ap, sym, subst}
use Rattle.plane.specs.declared.kinds.Point.{Point}
use Rattle.plane.specs.Rule.Curves.{arc}
use Rattle.plane.specs.Rule.HalfArcs.{HalfArc}
use Rattle.plane.specs.Rule.Places.{point}
use Rattle.straight_predicates.proofs.WindowEdges.{inside_close}
use Rattle.arc_predicates.specs.Circles.{AreClose, half_arc}
use Rattle.meetings.proofs.ArcPairs.{on_other_side}
use Rattle.meetings.proofs.badness.is_on_other_side.Goals as goal

pub circle-requires-clause-first : goal.circle-requires-clause-first
circle-requires-clause-first c =
    let r = c.requires in
    inside_close r.low r.high c.args.curve.now.from c.args.curve.now.to r.narrow r.drawn.from
    r.drawn.to

pub circle-requires-clause-second : goal.circle-requires-clause-second
circle-requires-clause-second c =
    let r = c.requires in
    inside_close r.low r.high c.args.curve.now.from c.args.curve.now.third r.narrow r.drawn.from
    r.drawn.third

pub circle-requires-clause-third : goal.circle-requires-clause-third
circle-requires-clause-third c =
    let r = c.requires in
    inside_close r.low r.high c.args.curve.now.to c.args.curve.now.third r.narrow r.drawn.to
    r.drawn.third

pub is_on_circle-requires : goal.is_on_circle-requires
is_on_circle-requires c =
    let r = c.requires in
    subst (λ (p : Point). AreClose p c.args.p)
    (sym (ap (λ (h : HalfArc). h.from) c.in-Some.ensures))
    (inside_close r.low r.high c.args.curve.now.from c.args.p r.narrow r.drawn.from r.inside)

pub is_off_third-requires : goal.is_off_third-requires
is_off_third-requires c =
    let r = c.requires in
    subst (λ (p : Point). AreClose p c.args.p)
    (sym (ap (λ (h : HalfArc). h.from) c.in-Some.ensures))
    (inside_close r.low r.high c.args.curve.now.from c.args.p r.narrow r.drawn.from r.inside)

pub returns-then-is_on_circle : goal.returns-then-is_on_circle
returns-then-is_on_circle c =
    on_other_side (arc c.args.curve.now) (half_arc c.in-Some.circle)
    (point c.args.p) c.is_off_third.result c.in-Some.ensures c.is_off_third.ensures
    (c.is_on_circle.ensures.0 c.if-is_on_circle.true)
