use Rattle.std.proofs.Common.{◌-◌, length}
use Rattle.plane.specs.Rule.Plans.{plan}
use Rattle.fault_lists.proofs.Ways.{IsOpenWay}
use Rattle.fault_lists.proofs.rings.ring_from.Given as goal

abbrev pub invariant-loop-sides : goal.invariant-loop-sides
invariant-loop-sides l =
    IsOpenWay (plan l.drawing) l.faces l.face l.from l.fn.marks l.marks l.sides.items l.side

abbrev pub decreases-loop-sides : goal.decreases-loop-sides
decreases-loop-sides l = length l.marks - length l.sides.items
