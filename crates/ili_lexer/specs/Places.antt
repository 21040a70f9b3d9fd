-- Lines and columns, counted from 1.
use Rattle.std.specs.Prelude.{◌≡◌, ℕ, ◌+◌, ◌≤◌, List, length, take, ◌==◌, count_by}
use Rattle.std.specs.List.{suffix_len}
use Rattle.ili_lexer.specs.Bytes.{is_inside_line}

-- the line of the byte after these: one for each LF, and one
abbrev pub line_after : List ℕ → ℕ
line_after before = 1 + count_by (λ b. b == 10) before

-- the column of the byte after these: one for each byte after the last LF, and one
abbrev pub column_after : List ℕ → ℕ
column_after before = 1 + suffix_len is_inside_line before

-- the byte at this offset stands in this line and column
pub record StandsAt (text : List ℕ) (offset line column : ℕ) : Type 0 where
  pub within : offset ≤ length text
  pub on_line : line ≡ line_after (take offset text)
  pub at_column : column ≡ column_after (take offset text)
