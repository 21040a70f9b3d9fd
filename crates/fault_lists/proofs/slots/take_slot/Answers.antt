use Rattle.fault_lists.proofs.slots.take_slot.Goals as goal

pub returns-in_default-2-clause-refused : goal.returns-in_default-2-clause-refused
returns-in_default-2-clause-refused c = λ e n side. absurd (c.in_default.ensures n side)
