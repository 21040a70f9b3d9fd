use Rattle.tubes.proofs.LevelEdges.{few_edges}
use Rattle.tubes.proofs.laws.few_edges.Goals as goal

pub returns : goal.returns
returns given = few_edges
