-- The front of a line.
use Rattle.std.specs.Prelude.{ℕ, suc, Bool, true, cond, not, List, [], ◌∷◌}
use Rattle.itf_lines.specs.Fields.{is_blank}

-- the number of bytes before the first blank or tab
abbrev pub field_len : List ℕ → ℕ
field_len [] = 0
field_len (c ∷ line) = cond (is_blank c) 0 (suc (field_len line))

-- a line is empty, or begins with a field
abbrev pub begins_with_field : List ℕ → Bool
begins_with_field [] = true
begins_with_field (c ∷ line) = not (is_blank c)
