use Rattle.itf_reader.proofs.Codes.{has_code}
use Rattle.itf_reader.proofs.Stands.{refused_at}
use Rattle.itf_reader.proofs.laws.machine_stops.Goals as goal

pub returns-clause-fault : goal.returns-clause-fault
returns-clause-fault c = refused_at

pub returns-clause-code : goal.returns-clause-code
returns-clause-code c = has_code
