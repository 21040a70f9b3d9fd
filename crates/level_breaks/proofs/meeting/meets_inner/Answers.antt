use Rattle.std.proofs.Common.{ℕ, ◌<◌, sym, subst}
use Rattle.plane.specs.Forms.Vectors.{Before}
use Rattle.plane.specs.declared.kinds.Edge.{Edge}
use Rattle.straight_predicates.specs.Meetings.{EdgesAreClose}
use Rattle.level_breaks.proofs.PartEdges.{inner_there}
use Rattle.level_breaks.proofs.meeting.meets_inner.Goals as goal

pub are_bad-requires-clause-other_sorted : goal.are_bad-requires-clause-other_sorted
are_bad-requires-clause-other_sorted c =
    let l = subst (λ (n : ℕ). c.args.part < n) c.bay_count.ensures c.if-part-bay_count.true in
    subst (λ (e : Edge). Before e.low e.high) (sym c.inner_of.ensures)
    (c.requires.beside.rising c.args.part
    (inner_there c.args.group.now.curve.now c.args.group.now.tube.now c.args.part
    c.requires.edged l))

pub are_bad-requires-clause-close : goal.are_bad-requires-clause-close
are_bad-requires-clause-close c =
    let l = subst (λ (n : ℕ). c.args.part < n) c.bay_count.ensures c.if-part-bay_count.true in
    subst (λ (e : Edge). EdgesAreClose c.args.edge.now e) (sym c.inner_of.ensures)
    (c.requires.beside.close c.args.part
    (inner_there c.args.group.now.curve.now c.args.group.now.tube.now c.args.part
    c.requires.edged l))
