use Rattle.std.proofs.Common.{length}
use Rattle.itf_reader.proofs.Flags.{AreWithin}
use Rattle.itf_reader.proofs.machine.number_set.forget.Given as goal

-- no flag is set but those of the numbers that are left
abbrev pub invariant-loop-number : goal.invariant-loop-number
invariant-loop-number l = AreWithin l.list.items l.flags.items

abbrev pub decreases-loop-number : goal.decreases-loop-number
decreases-loop-number l = length l.list.items
