use Rattle.std.proofs.Common.{◌≡◌, drop}
use Rattle.ili_grammar.specs.Numbers.{decimals}
use Rattle.ili_grammar.proofs.decimals.decimals_of.Given as goal

abbrev pub invariant-loop-i : goal.invariant-loop-i
invariant-loop-i l = decimals l.bytes ≡ decimals (drop l.i l.bytes)
