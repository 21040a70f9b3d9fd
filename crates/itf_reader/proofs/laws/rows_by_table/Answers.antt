use Rattle.itf_reader.proofs.ByTable.{rows_by_table}
use Rattle.itf_reader.proofs.laws.rows_by_table.Goals as goal

pub returns : goal.returns
returns c = rows_by_table
