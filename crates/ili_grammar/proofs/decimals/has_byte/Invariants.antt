use Rattle.std.proofs.Common.{◌≡◌, drop}
use Rattle.ili_grammar.specs.Numbers.{has}
use Rattle.ili_grammar.proofs.decimals.has_byte.Given as goal

abbrev pub invariant-loop-byte : goal.invariant-loop-byte
invariant-loop-byte l = has l.wanted l.bytes ≡ has l.wanted (drop l.byte-index l.bytes)
