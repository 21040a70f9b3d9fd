use Rattle.delivery.proofs.WrittenAreas.{one_bounded}
use Rattle.delivery.proofs.laws.polygons_are_given.Goals as goal

pub returns : goal.returns
returns c l text ps qs h k = one_bounded l text ps qs h k
