use Rattle.std.proofs.Common.{◌≡◌}
use Rattle.plane.specs.Rule.Plans.{plan}
use Rattle.fault_lists.specs.Tracing.{AreTracedTo, rings_of, sides_of}
use Rattle.fault_lists.proofs.rings.trace_all.Given as goal

abbrev pub invariant-loop-number : goal.invariant-loop-number
invariant-loop-number l = record {
  sides : sides_of l.regions ≡ sides_of l.fn.regions;
  traced : AreTracedTo (plan l.drawing) l.faces l.slots l.number l.marks.items (rings_of l.regions);
}
