use Rattle.half_edges.proofs.Turning.{faces_part, stars_part}
use Rattle.half_edges.proofs.laws.cycles.Goals as goal

pub returns : goal.returns
returns c = record { of_next = faces_part; of_turning = stars_part }
