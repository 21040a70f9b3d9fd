-- Lines of the code, without where they lie in memory.
use Rattle.std.specs.Prelude.{List, map}
use Rattle.itf_lines.specs.declared.logical.Line.{Line}
use Rattle.itf_lines.specs.declared.logical.Lines.{Lines}
use Rattle.itf_lines.specs.LogicalLines.{LogicalLine, LogicalLines}

abbrev pub line_view : Line → LogicalLine
line_view line = record { number = line.number; word = line.word; fields = line.fields.items }

abbrev pub lines_view : List Line → List LogicalLine
lines_view lines = map line_view lines

abbrev pub logical_view : Lines → LogicalLines
logical_view lines =
    record { lines = lines_view lines.lines.items; fault = lines.fault; total = lines.total }
