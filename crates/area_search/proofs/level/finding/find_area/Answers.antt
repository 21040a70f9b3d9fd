use Rattle.std.proofs.Common.{arith}
use Rattle.area_search.proofs.level.finding.find_area.Goals as goal

pub find_objects-requires-clause-near : goal.find_objects-requires-clause-near
find_objects-requires-clause-near c = λ j x l. absurd (omega (arith, l))
