use Rattle.field_values.proofs.ValuesMeet.{exact}
use Rattle.field_values.proofs.laws.columns_are_met.Goals as goal

pub returns : goal.returns
returns c = exact
