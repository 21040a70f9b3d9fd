-- A line without the blanks at its end.
use Rattle.std.proofs.Common.{◌≡◌, ◌≤◌, ◌-◌, ◌+◌, ℕ, Bool, true, false, cond, ◌&&◌, List, [], ◌∷◌}
use Rattle.std.proofs.Common.{◌++◌, length, take, refl, ap, arith, ◌∙◌, sym, nat_eq, slice_index_or}
use Rattle.std.proofs.lemmas.List.{take_more}
use Rattle.std.proofs.Math.Seq.{take-length}
use Rattle.itf_lines.specs.Fields.{is_blank, all_blank, trim_end, ends_in}

all_blank-end : (line : List ℕ) (c : ℕ) → is_blank c ≡ true
    → all_blank (line ++ (c ∷ [])) ≡ all_blank line
all_blank-end [] c h = rw h refl
all_blank-end (d ∷ line) c h = ap (λ (b : Bool). is_blank d && b) (all_blank-end line c h)

not_all_blank-end : (line : List ℕ) (c : ℕ) → is_blank c ≡ false
    → all_blank (line ++ (c ∷ [])) ≡ false
not_all_blank-end [] c h = rw h refl
not_all_blank-end (d ∷ line) c h =
    elim (is_blank d) as (λ b. (b && all_blank (line ++ (c ∷ []))) ≡ false)
    [ true ↦ not_all_blank-end line c h | false ↦ refl ]

-- a blank at the end is dropped
trimmed_more : (line : List ℕ) (c : ℕ) → is_blank c ≡ true
    → trim_end (line ++ (c ∷ [])) ≡ trim_end line
trimmed_more [] c h = rw h refl
trimmed_more (d ∷ line) c h = rw (all_blank-end line c h, trimmed_more line c h) refl

-- and nothing else
trimmed_end : (line : List ℕ) (c : ℕ) → is_blank c ≡ false
    → trim_end (line ++ (c ∷ [])) ≡ line ++ (c ∷ [])
trimmed_end [] c h = rw h refl
trimmed_end (d ∷ line) c h =
    rw (not_all_blank-end line c h, trimmed_end line c h)
    (elim (is_blank d) as (λ b. cond (b && false) [] (d ∷ (line ++ (c ∷ [])))
    ≡ d ∷ (line ++ (c ∷ []))) [ true ↦ refl | false ↦ refl ])

ends_in-end : (code : ℕ) (line : List ℕ) (c : ℕ) → ends_in code (line ++ (c ∷ [])) ≡ nat_eq c code
ends_in-end code [] c = refl
ends_in-end code (d ∷ []) c = refl
ends_in-end code (d ∷ e ∷ line) c = ends_in-end code (e ∷ line) c

-- a line is its front and its last byte
last_apart : (line : List ℕ) → 1 ≤ length line
    → take (length line - 1) line ++ (slice_index_or line (length line - 1) 0 ∷ []) ≡ line
last_apart line h =
    let whole : length line - 1 + 1 ≡ length line = omega arith in
    sym (take_more line (length line - 1) 0 (omega arith))
    ∙ (ap (λ (n : ℕ). take n line) whole ∙ take-length line)

pub trimmed_blank : (line : List ℕ) → 1 ≤ length line
    → is_blank (slice_index_or line (length line - 1) 0) ≡ true
    → trim_end (take (length line - 1) line) ≡ trim_end line
trimmed_blank line h e =
    sym (trimmed_more (take (length line - 1) line) (slice_index_or line (length line - 1) 0) e)
    ∙ ap trim_end (last_apart line h)

pub trimmed_solid : (line : List ℕ) → 1 ≤ length line
    → is_blank (slice_index_or line (length line - 1) 0) ≡ false → trim_end line ≡ line
trimmed_solid line h e = ap trim_end (sym (last_apart line h))
    ∙ (trimmed_end (take (length line - 1) line) (slice_index_or line (length line - 1) 0) e
    ∙ last_apart line h)

pub last_byte : (code : ℕ) (line : List ℕ) → 1 ≤ length line
    → ends_in code line ≡ nat_eq (slice_index_or line (length line - 1) 0) code
last_byte code line h = ap (ends_in code) (sym (last_apart line h))
    ∙ ends_in-end code (take (length line - 1) line) (slice_index_or line (length line - 1) 0)
