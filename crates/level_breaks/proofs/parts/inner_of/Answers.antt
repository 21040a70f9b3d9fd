use Rattle.level_breaks.proofs.PartEdges.{inner_there}
use Rattle.level_breaks.proofs.parts.inner_of.Goals as goal

pub edge_at-requires-clause-there : goal.edge_at-requires-clause-there
edge_at-requires-clause-there c =
    inner_there c.args.group.now.curve.now c.args.group.now.tube.now c.args.part c.requires.edged
    c.requires.there
