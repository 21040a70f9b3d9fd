use Rattle.half_edges.specs.HalfEdges.{size}
use Rattle.faces.proofs.JoinedCells.{joins_again}
use Rattle.faces.proofs.graph.Graph.new.Goals as goal

pub returns-clause-graph : goal.returns-clause-graph
returns-clause-graph c =
    let (cells, joins) = c.requires.joins in
    record {
      mesh_is = c.halves_of.ensures.mesh;
      joins = joins_again (size c.args.mesh.now) cells c.args.joins.now joins
          c.halves_of.ensures.mesh.pairs;
    }
