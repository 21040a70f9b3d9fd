use Rattle.itf_reader.specs.Machine.{start}
use Rattle.itf_reader.proofs.Openings.{opens_read, opens_refused}
use Rattle.itf_reader.proofs.Thin.{rows_shown}
use Rattle.itf_reader.proofs.laws.from_the_opening.Goals as goal

pub returns-clause-reads : goal.returns-clause-reads
returns-clause-reads c = opens_read

pub returns-clause-refuses : goal.returns-clause-refuses
returns-clause-refuses c = opens_refused

pub returns-clause-shows : goal.returns-clause-shows
returns-clause-shows c form lines = rows_shown form start lines
