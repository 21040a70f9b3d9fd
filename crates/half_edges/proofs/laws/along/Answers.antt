use Rattle.half_edges.proofs.Turning.{agrees_along_cycle}
use Rattle.half_edges.proofs.laws.along.Goals as goal

pub returns : goal.returns
returns c = agrees_along_cycle
