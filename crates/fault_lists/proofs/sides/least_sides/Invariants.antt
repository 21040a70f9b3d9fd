use Rattle.std.proofs.Common.{◌*◌}
use Rattle.fault_lists.proofs.LeastSides.{AreToldTo}
use Rattle.fault_lists.proofs.sides.least_sides.Given as goal

abbrev pub invariant-loop-number : goal.invariant-loop-number
invariant-loop-number l = AreToldTo l.faces l.fn.marks (2 * l.number) l.sides.items l.marks
