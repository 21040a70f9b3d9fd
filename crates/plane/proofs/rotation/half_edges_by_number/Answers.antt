use Rattle.plane.proofs.Turning.Numbering.{half_number, number_half}
use Rattle.plane.proofs.rotation.half_edges_by_number.Goals as goal

pub returns-clause-back : goal.returns-clause-back
returns-clause-back given = half_number

pub returns-clause-forth : goal.returns-clause-forth
returns-clause-forth given = number_half
