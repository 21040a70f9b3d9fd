use Rattle.table_layout.proofs.Named as named
use Rattle.table_layout.proofs.OwnNames.{own_names}
use Rattle.table_layout.proofs.laws.found_by_name.Goals as goal

pub returns-clause-named : goal.returns-clause-named
returns-clause-named c written m none h = own_names written none m h

pub returns-clause-found : goal.returns-clause-found
returns-clause-found c m h = named.found_by_name m h
