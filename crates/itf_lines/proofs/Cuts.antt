-- A line is its first field and what follows it.
use Rattle.std.proofs.Common.{◌≡◌, ◌<◌, ℕ, suc, true, false, not, List, [], ◌∷◌, length, take, drop}
use Rattle.std.proofs.Common.{refl, ap, arith, ◌∙◌}
use Rattle.itf_lines.specs.Fields.{is_blank, fields, with_first_byte}
use Rattle.itf_lines.specs.Fronts.{field_len, begins_with_field}

len_in : (c : ℕ) (line : List ℕ) → is_blank c ≡ false → field_len (c ∷ line) ≡ suc (field_len line)
len_in c line h = rw h refl

grows : (c d : ℕ) (line : List ℕ) → is_blank c ≡ false → is_blank d ≡ false
    → fields (c ∷ d ∷ line) ≡ with_first_byte c (fields (d ∷ line))
grows c d line h e = rw (h, e) refl

ends : (c d : ℕ) (line : List ℕ) → is_blank c ≡ false → is_blank d ≡ true
    → fields (c ∷ d ∷ line) ≡ (c ∷ []) ∷ fields (d ∷ line)
ends c d line h e = rw (h, e) refl

none_in : (d : ℕ) (line : List ℕ) → is_blank d ≡ true → field_len (d ∷ line) ≡ 0
none_in d line e = rw e refl

pub field_front : (c : ℕ) (line : List ℕ) → is_blank c ≡ false
    → fields (c ∷ line) ≡ take (field_len (c ∷ line)) (c ∷ line)
    ∷ fields (drop (field_len (c ∷ line)) (c ∷ line))
field_front c [] h = rw h refl
field_front c (d ∷ line) h =
    elim (is_blank d) as (λ b. is_blank d ≡ b
    → fields (c ∷ d ∷ line) ≡ take (field_len (c ∷ d ∷ line)) (c ∷ d ∷ line)
    ∷ fields (drop (field_len (c ∷ d ∷ line)) (c ∷ d ∷ line))) [
      | true ↦ λ e. ends c d line h e ∙ rw (len_in c (d ∷ line) h, none_in d line e) refl
      | false ↦ λ e. grows c d line h e
          ∙ (ap (with_first_byte c) (field_front d line e) ∙ rw (len_in c (d ∷ line) h) refl)
    ] refl

pub front_is_field : (line : List ℕ) → begins_with_field line ≡ true → 0 < length line
    → fields line ≡ take (field_len line) line ∷ fields (drop (field_len line) line)
front_is_field [] h k = absurd (omega arith)
front_is_field (c ∷ line) h k =
    elim (is_blank c) as (λ b. not b ≡ true → is_blank c ≡ b
    → fields (c ∷ line) ≡ take (field_len (c ∷ line)) (c ∷ line)
    ∷ fields (drop (field_len (c ∷ line)) (c ∷ line))) [
      | true ↦ λ g e. absurd cc
      | false ↦ λ g e. field_front c line e
    ] h refl
