use Rattle.tubes.proofs.ListedEdges.{count_by_curves, edge_by_number, straights_list}
use Rattle.tubes.proofs.ListedEdges.{tube_by_number}
use Rattle.tubes.proofs.laws.edges_of_tubed_drawing.Goals as goal

pub returns-clause-tubes : goal.returns-clause-tubes
returns-clause-tubes given = tube_by_number

pub returns-clause-count : goal.returns-clause-count
returns-clause-count given = count_by_curves

pub returns-clause-edges : goal.returns-clause-edges
returns-clause-edges given = edge_by_number

pub returns-clause-straights : goal.returns-clause-straights
returns-clause-straights given = straights_list
