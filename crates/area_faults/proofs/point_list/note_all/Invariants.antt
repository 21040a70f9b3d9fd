use Rattle.area_faults.specs.PointLists.{AreLeast}
use Rattle.area_faults.proofs.point_list.note_all.Given as goal

abbrev pub invariant-loop-pair : goal.invariant-loop-pair
invariant-loop-pair l = AreLeast l.pairs l.pair-index l.least
