use Rattle.std.proofs.Common.{ℕ, ◌+◌, ◌<◌, length, sym, ap, subst, ◌∙◌}
use Rattle.straight_predicates.specs.EdgeLists.{edge_of}
use Rattle.level_breaks.specs.Groups.{edges_with}
use Rattle.level_breaks.proofs.PartEdges.{outer_there}
use Rattle.level_breaks.proofs.parts.outer_of.Goals as goal

pub edge_at-requires-clause-there : goal.edge_at-requires-clause-there
edge_at-requires-clause-there c =
    let g = c.args.group.now in
    subst (λ (n : ℕ). n + c.args.part < length (edges_with g.curve.now g.tube.now))
    (sym c.bay_count.ensures)
    (outer_there g.curve.now g.tube.now c.args.part c.requires.edged c.requires.there)

pub returns : goal.returns
returns c =
    let g = c.args.group.now in
    c.edge_at.ensures
    ∙ ap (λ (n : ℕ). edge_of (edges_with g.curve.now g.tube.now) (n + c.args.part))
    c.bay_count.ensures
