use Rattle.std.proofs.Common.{◌≡◌, [], take, length}
use Rattle.plane.specs.Lists.{Has}
use Rattle.fault_lists.specs.declared.kinds.Region.{Region}
use Rattle.fault_lists.specs.Tracing.{AreBlank}
use Rattle.fault_lists.proofs.rings.without_rings.Given as goal

abbrev pub invariant-loop-side : goal.invariant-loop-side
invariant-loop-side l = AreBlank (take l.side-index l.sides) l.regions.items
