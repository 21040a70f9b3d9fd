use Rattle.std.proofs.Common.{◌≡◌, ◌+◌, drop}
use Rattle.itf_lines.specs.Fronts.{field_len}
use Rattle.itf_lines.proofs.cut.field_len.Given as goal

abbrev pub invariant-loop-i : goal.invariant-loop-i
invariant-loop-i l = l.i + field_len (drop l.i l.line) ≡ field_len l.line
