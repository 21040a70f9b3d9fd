use Rattle.std.proofs.Common.{◌≡◌, length, take}
use Rattle.ports.proofs.short.copy_each.Given as goal

-- the bytes before this place are copied
abbrev pub invariant-loop-place : goal.invariant-loop-place
invariant-loop-place l = record {
  front : take l.place l.into ≡ take l.place l.bytes;
  length : length l.into ≡ length l.fn.into;
}
