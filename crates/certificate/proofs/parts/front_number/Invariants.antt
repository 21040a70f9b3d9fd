use Rattle.std.proofs.Common.{◌≡◌, ◌+◌, ◌^◌, min, take, drop}
use Rattle.std.specs.List.{prefix_len}
use Rattle.std.specs.Char.{is_ascii_digit}
use Rattle.std.specs.Str.Parse.{digits_value}
use Rattle.certificate.proofs.parts.front_number.Given as goal

-- the bytes before this place are digits, and were read
abbrev pub invariant-loop-i : goal.invariant-loop-i
invariant-loop-i l = record {
  front : l.i + prefix_len is_ascii_digit (drop l.i l.bytes) ≡ prefix_len is_ascii_digit l.bytes;
  value : l.value ≡ min (digits_value 10 (take l.i l.bytes)) (2 ^ 32);
}
