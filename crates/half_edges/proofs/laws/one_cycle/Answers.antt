use Rattle.half_edges.proofs.Turning.{star_one_cycle}
use Rattle.half_edges.proofs.Elsewhere.{star_stays}
use Rattle.half_edges.proofs.laws.one_cycle.Goals as goal

pub returns : goal.returns
returns c = record {
  given = λ old new around linked. record { turns = linked.links.next_is };
  star = λ old new around star linked. star_stays old new around around linked star;
  one = star_one_cycle;
}
