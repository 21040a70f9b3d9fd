use Rattle.decimals.specs.PlainNumbers.{IsFrontNumber}
use Rattle.decimals.proofs.plain.front_number.Given as goal

-- the bytes before this place are digits, and were read
abbrev pub invariant-loop-i : goal.invariant-loop-i
invariant-loop-i l = IsFrontNumber l.from l.bytes l.i l.number
