use Rattle.tubes.proofs.LevelEdges.{list_sizes, owner_by_number}
use Rattle.tubes.proofs.laws.tubed_lists.Goals as goal

pub returns-clause-edges : goal.returns-clause-edges
returns-clause-edges given d level list t = t.edges

pub returns-clause-sizes : goal.returns-clause-sizes
returns-clause-sizes given = list_sizes

pub returns-clause-owners : goal.returns-clause-owners
returns-clause-owners given = owner_by_number
