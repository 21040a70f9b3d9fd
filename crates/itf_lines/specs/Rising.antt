-- The numbers of logical lines.
use Rattle.std.specs.Prelude.{ℕ, ◌<◌, ◌≤◌, ⊤, List, [], ◌∷◌}
use Rattle.itf_lines.specs.LogicalLines.{LogicalLine}

-- each number is greater than the one before it, and the first than that
abbrev pub Rise : ℕ → List LogicalLine → Type 0
Rise low [] = ⊤
Rise low (line ∷ lines) = (low < line.number) × Rise line.number lines

-- no number is greater than that
abbrev pub AreAtMost : ℕ → List LogicalLine → Type 0
AreAtMost high [] = ⊤
AreAtMost high (line ∷ lines) = (line.number ≤ high) × AreAtMost high lines
