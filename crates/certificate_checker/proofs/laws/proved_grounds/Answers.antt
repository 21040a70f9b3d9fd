use Rattle.certificate_checker.proofs.Grounds.{one_broken_by, proves_it, unproved_by}
use Rattle.certificate_checker.proofs.laws.proved_grounds.Goals as goal

pub returns-clause-proves : goal.returns-clause-proves
returns-clause-proves given t d g b os c i p = proves_it t d b c g os i p

pub returns-clause-unproved : goal.returns-clause-unproved
returns-clause-unproved given = unproved_by

pub returns-clause-rule : goal.returns-clause-rule
returns-clause-rule given t d b c m p n q x y = (one_broken_by t d b c m p n q x y).0

pub returns-clause-place : goal.returns-clause-place
returns-clause-place given t d b c m p n q x y = (one_broken_by t d b c m p n q x y).1
