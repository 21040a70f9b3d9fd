use Rattle.std.proofs.Common.{ℕ, ◌<◌, subst}
use Rattle.plane.specs.Forms.Meets.{IsEnd}
use Rattle.plane.specs.declared.kinds.Edge.{Edge}
use Rattle.level_breaks.proofs.PartEdges.{inner_there}
use Rattle.level_breaks.proofs.entering.inner_enters.Goals as goal

pub ends_in_part-requires : goal.ends_in_part-requires
ends_in_part-requires c = λ p end.
    let g = c.args.group.now in
    let l = subst (λ (n : ℕ). c.args.part < n) c.bay_count.ensures c.if-part-bay_count.true in
    c.requires.turnable c.args.part
    (inner_there g.curve.now g.tube.now c.args.part c.requires.edged l) p
    (subst (λ (e : Edge). IsEnd e p) c.inner_of.ensures end)
