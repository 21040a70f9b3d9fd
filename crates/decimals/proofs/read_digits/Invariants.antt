use Rattle.std.proofs.Common.{◌≡◌, ◌≤◌, ◌^◌, drop}
use Rattle.decimals.specs.Counted.{counted}
use Rattle.decimals.proofs.read_digits.Given as goal

-- what is left to read gives the whole
abbrev pub invariant-loop-digit : goal.invariant-loop-digit
invariant-loop-digit l = record {
  small : l.number ≤ 10 ^ 18;
  rest : counted l.number (drop l.digit-index l.digits) ≡ counted l.from l.digits;
}
