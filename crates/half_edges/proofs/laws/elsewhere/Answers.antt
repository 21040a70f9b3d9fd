use Rattle.half_edges.proofs.Elsewhere.{star_stays, turned_elsewhere, loose_elsewhere}
use Rattle.half_edges.proofs.Elsewhere.{turns_elsewhere}
use Rattle.half_edges.proofs.laws.elsewhere.Goals as goal

pub returns : goal.returns
returns c = record {
  star = star_stays;
  turned = turned_elsewhere;
  loose = loose_elsewhere;
  linked = turns_elsewhere;
}
