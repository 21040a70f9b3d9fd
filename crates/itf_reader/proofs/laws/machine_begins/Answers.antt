use Rattle.itf_reader.proofs.Stands.{taken_begins, refused_begins}
use Rattle.itf_reader.proofs.laws.machine_begins.Goals as goal

pub returns-clause-taken : goal.returns-clause-taken
returns-clause-taken c = taken_begins

pub returns-clause-refused : goal.returns-clause-refused
returns-clause-refused c = refused_begins
