-- Texts that are held in memory.
use Rattle.std.specs.Prelude.{ℕ, zero, suc, ◌+◌, List, [], ◌∷◌, ◌++◌, take, drop}
use Rattle.std.specs.List.{flat_map}
use Rattle.file_pages.specs.declared.blocks.Repeat.{Repeat}

-- a line, so many times
abbrev pub times : ℕ → List ℕ → List ℕ
times zero line = []
times (suc n) line = line ++ times n line

-- how many bytes stand before the last of these places
abbrev pub settled_by : List Repeat → ℕ
settled_by [] = 0
settled_by (r ∷ repeats) = r.after + settled_by repeats

-- bytes, with a line at places among them, so many times at each
abbrev pub spliced : List ℕ → List Repeat → List ℕ → List ℕ
spliced line [] bytes = bytes
spliced line (r ∷ repeats) bytes =
    take r.after bytes ++ (times r.count line ++ spliced line repeats (drop r.after bytes))

-- some texts, one behind the other
abbrev pub joined : List (List ℕ) → List ℕ
joined texts = flat_map (λ text. text) texts
