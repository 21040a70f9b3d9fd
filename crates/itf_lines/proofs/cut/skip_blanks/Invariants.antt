use Rattle.std.proofs.Common.{◌≡◌, ◌≤◌, length}
use Rattle.itf_lines.specs.Fields.{fields}
use Rattle.itf_lines.proofs.cut.skip_blanks.Given as goal

abbrev pub invariant-loop-line : goal.invariant-loop-line
invariant-loop-line l = record {
  fields : fields l.line ≡ fields l.fn.line;
  shorter : length l.line ≤ length l.fn.line;
}

abbrev pub decreases-loop-line : goal.decreases-loop-line
decreases-loop-line l = length l.line
