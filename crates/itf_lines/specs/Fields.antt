-- The fields of a physical line.
use Rattle.std.specs.Prelude.{ℕ, Bool, true, false, cond, ◌&&◌, ◌||◌, ◌==◌, ◌-◌, List, [], ◌∷◌}
use Rattle.std.specs.Prelude.{length, take, map}
use Rattle.bstr.specs.Text.{lines_of, without_terminator}

-- The physical lines: each ends with LF or with the last byte. A CR before LF belongs to no line.
abbrev pub physical_lines : List ℕ → List (List ℕ)
physical_lines text = map without_terminator (lines_of text)

-- a blank or a tab
abbrev pub is_blank : ℕ → Bool
is_blank c = c == 32 || c == 9

-- a byte at the front of the first field
abbrev pub with_first_byte : ℕ → List (List ℕ) → List (List ℕ)
with_first_byte c [] = (c ∷ []) ∷ []
with_first_byte c (field ∷ fields) = (c ∷ field) ∷ fields

-- nothing follows, or a blank or a tab
abbrev pub ends_field : List ℕ → Bool
ends_field [] = true
ends_field (c ∷ line) = is_blank c

-- the fields of a line: one or more blanks and tabs divide them
abbrev pub fields : List ℕ → List (List ℕ)
fields [] = []
fields (c ∷ line) =
    cond (is_blank c) (fields line)
    (cond (ends_field line) ((c ∷ []) ∷ fields line) (with_first_byte c (fields line)))

-- nothing but blanks and tabs
abbrev pub all_blank : List ℕ → Bool
all_blank [] = true
all_blank (c ∷ line) = is_blank c && all_blank line

-- the line with the blanks and tabs at its end dropped
abbrev pub trim_end : List ℕ → List ℕ
trim_end [] = []
trim_end (c ∷ line) = cond (all_blank (c ∷ line)) [] (c ∷ trim_end line)

-- that byte is the last one
abbrev pub ends_in : ℕ → List ℕ → Bool
ends_in code [] = false
ends_in code (c ∷ []) = c == code
ends_in code (c ∷ d ∷ line) = ends_in code (d ∷ line)

-- all bytes but the last
abbrev pub without_last : List ℕ → List ℕ
without_last line = take (length line - 1) line
