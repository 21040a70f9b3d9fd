use Rattle.std.proofs.Common.{◌≡◌, length}
use Rattle.itf_lines.specs.Fields.{trim_end}
use Rattle.itf_lines.proofs.cut.trim_end.Given as goal

abbrev pub invariant-loop-line : goal.invariant-loop-line
invariant-loop-line l = trim_end l.line ≡ trim_end l.fn.line

abbrev pub decreases-loop-line : goal.decreases-loop-line
decreases-loop-line l = length l.line
