use Rattle.table_layout.proofs.NamesValid.{area_named}
use Rattle.table_layout.proofs.laws.area_names.Goals as goal

pub returns : goal.returns
returns c l k a v e = area_named l k a v e
