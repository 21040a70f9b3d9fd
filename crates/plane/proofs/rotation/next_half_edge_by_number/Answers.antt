use Rattle.plane.proofs.Turning.FanNumbers.{run_good, run_filled, next_number_is}
use Rattle.plane.proofs.rotation.next_half_edge_by_number.Goals as goal

pub returns-clause-good : goal.returns-clause-good
returns-clause-good given = run_good

pub returns-clause-filled : goal.returns-clause-filled
returns-clause-filled given = run_filled

pub returns-clause-next : goal.returns-clause-next
returns-clause-next given w m E steps next h g run round l =
    next_number_is w m E steps run next round h g l
