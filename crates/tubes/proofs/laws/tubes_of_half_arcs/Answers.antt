use Rattle.tubes.proofs.TubePoints.{one_tube, tube_count, tube_is, tube_near}
use Rattle.tubes.proofs.laws.tubes_of_half_arcs.Goals as goal

pub returns-clause-tube : goal.returns-clause-tube
returns-clause-tube given = tube_is

pub returns-clause-count : goal.returns-clause-count
returns-clause-count given = tube_count

pub returns-clause-near : goal.returns-clause-near
returns-clause-near given = tube_near

pub returns-clause-one : goal.returns-clause-one
returns-clause-one given = one_tube
