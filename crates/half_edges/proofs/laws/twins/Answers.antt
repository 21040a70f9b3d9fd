use Rattle.half_edges.proofs.Twins.{twin_low, twin_high, twin-twin, twin_within}
use Rattle.half_edges.specs.HalfEdges.{size}
use Rattle.half_edges.proofs.laws.twins.Goals as goal

pub returns : goal.returns
returns c = record {
  even = twin_low;
  odd = twin_high;
  back = twin-twin;
  within = λ m h mesh l. twin_within (size m) h mesh.pairs l;
}
