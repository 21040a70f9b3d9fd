use Rattle.near_pairs.specs.Boxes.{box_of}
use Rattle.level_breaks.proofs.BoxPoints.{covered}
use Rattle.level_breaks.proofs.boxes.edge_reach.Goals as goal

pub returns-clause-low : goal.returns-clause-low
returns-clause-low c =
    covered (box_of c.grown.result) (box_of c.around.result) c.args.edge.now.low
    c.grown.ensures.kept c.around.ensures
