use Rattle.fault_lists.specs.Tracing.{AreSlots}
use Rattle.fault_lists.proofs.slots.slots_of.Given as goal

abbrev pub invariant-loop-place : goal.invariant-loop-place
invariant-loop-place l = AreSlots l.faces l.sides l.place l.slots.items
