use Rattle.itf_reader.proofs.RowLaws.{rows_counted, rows_formed}
use Rattle.itf_reader.proofs.laws.strokes_counted.Goals as goal

pub returns-clause-counted : goal.returns-clause-counted
returns-clause-counted c = rows_counted

pub returns-clause-form : goal.returns-clause-form
returns-clause-form c = rows_formed
