-- How many physical lines there are.
use Rattle.std.proofs.Common.{◌≤◌, ℕ, zero, suc, List, [], ◌∷◌, length, drop, arith}
use Rattle.std.proofs.lemmas.List.{length-map}
use Rattle.bstr.specs.Text.{lines_from, lines_of, line_len, without_terminator}
use Rattle.itf_lines.specs.Fields.{physical_lines}

lines_at_most : (n : ℕ) (bs : List ℕ) → length (lines_from n bs) ≤ n
unfolding lines_from
lines_at_most zero bs = omega arith
lines_at_most (suc n) [] = omega arith
lines_at_most (suc n) (b ∷ rest) =
    let h = lines_at_most n (drop (line_len (b ∷ rest)) (b ∷ rest)) in omega (arith, h)

-- no more than bytes
pub few_lines : (text : List ℕ) → length (physical_lines text) ≤ length text
few_lines text =
    let h = lines_at_most (length text) text in
    let l = length-map (lines_of text) without_terminator in omega (arith, h, l)
