use Rattle.std.proofs.Common.{ℕ, ◌<◌, sym, subst}
use Rattle.plane.specs.declared.kinds.Edge.{Edge}
use Rattle.level_breaks.specs.Groups.{edges_with}
use Rattle.level_breaks.specs.Parts.{IsBeside}
use Rattle.level_breaks.proofs.PartEdges.{inner_beside}
use Rattle.level_breaks.proofs.PlacedGroups.{first_edged, second_edged}
use Rattle.level_breaks.proofs.meeting.inner_meets.Goals as goal

pub inner_of-requires-clause-edged : goal.inner_of-requires-clause-edged
inner_of-requires-clause-edged c = first_edged c.args.one.now c.args.other.now c.requires.groups

pub meets_part-requires-clause-edged : goal.meets_part-requires-clause-edged
meets_part-requires-clause-edged c = second_edged c.args.one.now c.args.other.now c.requires.groups

pub meets_part-requires-clause-beside : goal.meets_part-requires-clause-beside
meets_part-requires-clause-beside c =
    let l = subst (λ (n : ℕ). c.args.part < n) c.bay_count.ensures c.if-part-bay_count.true in
    subst (λ (e : Edge). IsBeside e
    (edges_with c.args.other.now.curve.now c.args.other.now.tube.now)) (sym c.inner_of.ensures)
    (inner_beside c.args.one.now c.args.other.now c.args.part c.requires.groups l)
