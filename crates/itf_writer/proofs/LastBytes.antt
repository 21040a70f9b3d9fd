-- Lines by their last byte.
use Rattle.std.proofs.Common.{◌≡◌, ◌-◌, ◌==◌, ℕ, Bool, true, false, cond, ◌&&◌, List, [], ◌∷◌, ◌++◌}
use Rattle.std.proofs.Common.{length, take, refl, ap, ◌∙◌, arith, nat_lt, nat_eq}
use Rattle.std.specs.Prelude.{slice_index}
use Rattle.std.proofs.lemmas.List.{length-append}
use Rattle.bstr.specs.Text.{without_terminator, no_cr}
use Rattle.itf_lines.specs.Fields.{is_blank, all_blank, trim_end, ends_in, without_last}

last_at : (front : List ℕ) (c : ℕ) → slice_index (front ++ c ∷ []) (length front) ≡ c
last_at [] c = refl
last_at (d ∷ front) c = last_at front c

pub take_front : (front back : List ℕ) → take (length front) (front ++ back) ≡ front
take_front [] back = refl
take_front (d ∷ front) back = ap (λ (l : List ℕ). d ∷ l) (take_front front back)

place : (front : List ℕ) (c : ℕ) → length (front ++ c ∷ []) - 1 ≡ length front
place front c = let l = length-append front (c ∷ []) in omega (arith, l)

is_there : (front : List ℕ) (c : ℕ) → nat_lt 0 (length (front ++ c ∷ [])) ≡ true
is_there front c = let l = length-append front (c ∷ []) in search (arith, l)

last_is : (front : List ℕ) (c code : ℕ)
    → (nat_lt 0 (length (front ++ c ∷ [])) && slice_index (front ++ c ∷ [])
    (length (front ++ c ∷ []) - 1) == code) ≡ (c == code)
last_is front c code =
    ap (λ (b : Bool). b && slice_index (front ++ c ∷ []) (length (front ++ c ∷ []) - 1) == code)
    (is_there front c)
    ∙ (ap (λ (i : ℕ). slice_index (front ++ c ∷ []) i == code) (place front c)
    ∙ ap (λ (d : ℕ). d == code) (last_at front c))

front_is : (front : List ℕ) (c : ℕ) → take (length (front ++ c ∷ []) - 1) (front ++ c ∷ []) ≡ front
front_is front c = ap (λ (n : ℕ). take n (front ++ c ∷ [])) (place front c)
    ∙ take_front front (c ∷ [])

-- a LF at the end goes
pub terminator_off : (x : List ℕ) → without_terminator (x ++ 10 ∷ []) ≡ no_cr x
terminator_off x =
    ap (λ (b : Bool). cond b (no_cr (take (length (x ++ 10 ∷ []) - 1) (x ++ 10 ∷ [])))
    (x ++ 10 ∷ [])) (last_is x 10 10) ∙ ap no_cr (front_is x 10)

-- and then a CR
pub cr_off : (front : List ℕ) → no_cr (front ++ 13 ∷ []) ≡ front
cr_off front =
    ap (λ (b : Bool). cond b (take (length (front ++ 13 ∷ []) - 1) (front ++ 13 ∷ []))
    (front ++ 13 ∷ [])) (last_is front 13 13) ∙ front_is front 13

-- but no other byte
pub other_stays : (front : List ℕ) (c : ℕ) → (c == 13) ≡ false
    → no_cr (front ++ c ∷ []) ≡ front ++ c ∷ []
other_stays front c h =
    ap (λ (b : Bool). cond b (take (length (front ++ c ∷ []) - 1) (front ++ c ∷ []))
    (front ++ c ∷ [])) (last_is front c 13 ∙ h)

pub last_off : (front : List ℕ) (c : ℕ) → without_last (front ++ c ∷ []) ≡ front
last_off front c = front_is front c

-- the last byte tells whether a line goes on
pub ends_in_last : (code : ℕ) (front : List ℕ) (c : ℕ)
    → ends_in code (front ++ c ∷ []) ≡ nat_eq c code
ends_in_last code [] c = refl
ends_in_last code (d ∷ []) c = refl
ends_in_last code (d ∷ e ∷ front) c = ends_in_last code (e ∷ front) c

not_blank : (front : List ℕ) (c : ℕ) → is_blank c ≡ false → all_blank (front ++ c ∷ []) ≡ false
not_blank [] c h = rw h refl
not_blank (d ∷ front) c h =
    elim (is_blank d) as (λ b. (b && all_blank (front ++ c ∷ [])) ≡ false)
    [ true ↦ not_blank front c h | false ↦ refl ]

-- nothing is dropped behind a byte that is no blank
pub nothing_dropped : (front : List ℕ) (c : ℕ) → is_blank c ≡ false
    → trim_end (front ++ c ∷ []) ≡ front ++ c ∷ []
nothing_dropped [] c h = rw h refl
nothing_dropped (d ∷ front) c h =
    rw (not_blank front c h, nothing_dropped front c h)
    (elim (is_blank d) as (λ b. cond (b && false) [] (d ∷ (front ++ c ∷ []))
    ≡ d ∷ (front ++ c ∷ [])) [ true ↦ refl | false ↦ refl ])
