use Rattle.std.proofs.Common.{◌≡◌, ◌<◌, ◌^◌, take, drop, count_by}
use Rattle.std.specs.Char.{is_ascii_digit}
use Rattle.ili_grammar.specs.Numbers.{read_from}
use Rattle.ili_grammar.proofs.decimals.value_of.Given as goal

abbrev pub invariant-loop-byte : goal.invariant-loop-byte
invariant-loop-byte l = record {
  value : read_from 0 l.bytes ≡ read_from l.value (drop l.byte-index l.bytes);
  small : l.value < 10 ^ count_by is_ascii_digit (take l.byte-index l.bytes);
}
