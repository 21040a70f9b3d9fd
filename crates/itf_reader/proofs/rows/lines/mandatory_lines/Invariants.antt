use Rattle.std.proofs.Common.{◌≡◌, ◌++◌, drop}
use Rattle.table_layout.specs.Values.{lines_view}
use Rattle.itf_reader.specs.LeftOut.{mandatory_from}
use Rattle.itf_reader.proofs.rows.lines.mandatory_lines.Given as goal

abbrev pub invariant-loop-line : goal.invariant-loop-line
invariant-loop-line l = record {
  number : l.number ≡ l.line-index;
  numbers : l.numbers.items ++ mandatory_from l.number (lines_view (drop l.line-index l.lines))
      ≡ mandatory_from 0 (lines_view l.lines);
}
