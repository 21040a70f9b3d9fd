use Rattle.tubes.proofs.EdgeLemmas.{drawn_edges, edge_count, one_edge}
use Rattle.tubes.proofs.laws.edges_of_drawing.Goals as goal

pub returns-clause-count : goal.returns-clause-count
returns-clause-count given = edge_count

pub returns-clause-edges : goal.returns-clause-edges
returns-clause-edges given = drawn_edges

pub returns-clause-one : goal.returns-clause-one
returns-clause-one given = one_edge
