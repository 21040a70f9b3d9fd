-- Tables of at most 4,194,306 columns and lines.
use Rattle.std.specs.Prelude.{◌+◌, ◌≤◌, length}
use Rattle.table_layout.specs.Layouts.{Table}

-- at most 4,194,306 columns and lines together
abbrev pub HasFew : Table → Type 0
HasFew t = length t.columns + length t.lines ≤ 4194306
