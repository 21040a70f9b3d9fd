use Rattle.half_edges.proofs.Turning.{turned_within, turned_origin}
use Rattle.half_edges.proofs.laws.turning.Goals as goal

pub returns : goal.returns
returns c = record { within = turned_within; stays = turned_origin }
