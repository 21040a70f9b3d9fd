use Rattle.area_search.proofs.SettledLemmas.CaseCurves.{small_power}
use Rattle.area_search.proofs.settled.case_sides.bay_count.Goals as goal

pub returns : goal.returns
returns c = small_power c.args.level c.requires
