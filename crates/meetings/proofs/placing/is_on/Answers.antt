use Rattle.straight_predicates.proofs.WindowEdges.{inside_close}
use Rattle.meetings.proofs.placing.is_on.Goals as goal

pub is_on_straight-requires-clause-ends : goal.is_on_straight-requires-clause-ends
is_on_straight-requires-clause-ends c =
    let r = c.requires in
    inside_close r.low r.high c.args.curve.now.from c.args.curve.now.to r.narrow r.drawn.from
    r.drawn.to

pub is_on_straight-requires-clause-point : goal.is_on_straight-requires-clause-point
is_on_straight-requires-clause-point c =
    let r = c.requires in
    inside_close r.low r.high c.args.curve.now.from c.args.p r.narrow r.drawn.from r.inside

pub is_on_half_arc-requires-clause-ends : goal.is_on_half_arc-requires-clause-ends
is_on_half_arc-requires-clause-ends c =
    let r = c.requires in
    inside_close r.low r.high c.args.curve.now.from c.args.curve.now.to r.narrow r.drawn.from
    r.drawn.to

pub is_on_half_arc-requires-clause-first : goal.is_on_half_arc-requires-clause-first
is_on_half_arc-requires-clause-first c =
    let r = c.requires in
    inside_close r.low r.high c.args.curve.now.from c.args.curve.now.third r.narrow r.drawn.from
    r.drawn.third

pub is_on_half_arc-requires-clause-second : goal.is_on_half_arc-requires-clause-second
is_on_half_arc-requires-clause-second c =
    let r = c.requires in
    inside_close r.low r.high c.args.curve.now.to c.args.curve.now.third r.narrow r.drawn.to
    r.drawn.third

pub is_on_half_arc-requires-clause-point : goal.is_on_half_arc-requires-clause-point
is_on_half_arc-requires-clause-point c =
    let r = c.requires in
    inside_close r.low r.high c.args.curve.now.from c.args.p r.narrow r.drawn.from r.inside
