-- What ends a line, by its last byte.
use Rattle.std.proofs.Common.{◌≡◌, ◌≤◌, ◌<◌, ◌+◌, ◌-◌, ◌==◌, ℕ, suc, Bool, List, [], ◌∷◌, ◌++◌}
use Rattle.std.proofs.Common.{length, take, get_or, slice_index_or, refl, ap, sym, ◌∙◌, arith}
use Rattle.std.proofs.Common.{if◌then◌else◌, append_assoc}
use Rattle.std.proofs.lemmas.List.{append-nil, take_more}
use Rattle.std.specs.Prelude.{codes}
use Rattle.itf_lines.specs.Fields.{ends_in}
use Rattle.itf_writer.specs.Canonical.{blank_before, line_end}
use Rattle.itf_writer.specs.Ends.{last_from, end_by}

-- the byte at the last place
pub last_is : (before : ℕ) (bytes : List ℕ) → 1 ≤ length bytes
    → last_from before bytes ≡ slice_index_or bytes (length bytes - 1) 0
last_is before [] h = absurd (omega arith)
last_is before (c ∷ []) h = refl
last_is before (c ∷ d ∷ bytes) h =
    let e : length (c ∷ d ∷ bytes) - 1 ≡ suc (length (d ∷ bytes) - 1) = omega arith in
    last_is c (d ∷ bytes) (omega arith) ∙ sym (ap (λ (n : ℕ). slice_index_or (c ∷ d ∷ bytes) n 0) e)

pub last_append : (before : ℕ) (a b : List ℕ)
    → last_from before (a ++ b) ≡ last_from (last_from before a) b
last_append before [] b = refl
last_append before (c ∷ a) b = last_append c a b

ends_from : (code c : ℕ) (l : List ℕ) → ends_in code (c ∷ l) ≡ (last_from c l == code)
ends_from code c [] = refl
ends_from code c (d ∷ l) = ends_from code d l

pub end_is : (code before : ℕ) (l : List ℕ) → 0 < length l
    → line_end code l ≡ end_by code (last_from before l)
end_is code before [] h = absurd (omega arith)
end_is code before (c ∷ l) h =
    ap (λ (b : Bool). if b then code ∷ codes "\nCONT\n" else if ends_in 13
    (c ∷ l) then codes "\r\n" else codes "\n") (ends_from code c l)
    ∙ ap (λ (b : Bool). if last_from c l == code then code
    ∷ codes "\nCONT\n" else if b then codes "\r\n" else codes "\n") (ends_from 13 c l)

some_more : (w l : List ℕ) → 0 < length w → 0 < length (w ++ l)
some_more [] l h = absurd (omega arith)
some_more (c ∷ w) l h = omega arith

-- a line by its parts
pub line_is : (code before last : ℕ) (w bytes : List ℕ) (fs : List (List ℕ)) → bytes ≡ w
    → 0 < length w → last ≡ last_from (last_from before w) (blank_before fs)
    → (bytes ++ blank_before fs) ++ end_by code last
    ≡ (w ++ blank_before fs) ++ line_end code (w ++ blank_before fs)
line_is code before last w bytes fs e h l =
    ap (λ (b : List ℕ). (b ++ blank_before fs) ++ end_by code last) e
    ∙ ap (λ (x : List ℕ). (w ++ blank_before fs) ++ x)
    (ap (end_by code) (l ∙ sym (last_append before w (blank_before fs)))
    ∙ sym (end_is code before (w ++ blank_before fs) (some_more w (blank_before fs) h)))

-- a line of a name
pub named_is : (code last : ℕ) (w bytes field : List ℕ) → bytes ≡ w → 0 < length w
    → last ≡ last_from 32 field
    → ((bytes ++ 32 ∷ []) ++ field) ++ end_by code last
    ≡ (w ++ blank_before (field ∷ [])) ++ line_end code (w ++ blank_before (field ∷ []))
named_is code last w bytes field e h l =
    let one : blank_before (field ∷ [])
    ≡ 32 ∷ field = ap (λ (x : List ℕ). 32 ∷ x) (append-nil field) in
    ap (λ (x : List ℕ). x ++ end_by code last) (append_assoc bytes (32 ∷ []) field
    ∙ ap (λ (x : List ℕ). bytes ++ x) (sym one))
    ∙ line_is code 0 last w bytes (field ∷ []) e h (l
    ∙ (ap (λ (x : List ℕ). last_from (last_from 0 w) x) (sym one)))

blank_append : (a b : List (List ℕ)) → blank_before (a ++ b) ≡ blank_before a ++ blank_before b
blank_append [] b = refl
blank_append (f ∷ a) b =
    ap (λ (x : List ℕ). 32 ∷ x) (ap (λ (x : List ℕ). f ++ x) (blank_append a b)
    ∙ sym (append_assoc f (blank_before a) (blank_before b)))

-- one more field
pub blank_more : (fs : List (List ℕ)) (i : ℕ) (d : List ℕ) → i < length fs
    → blank_before (take (i + 1) fs) ≡ blank_before (take i fs) ++ 32 ∷ get_or fs i d
blank_more fs i d l = ap blank_before (take_more fs i d l)
    ∙ (blank_append (take i fs) (get_or fs i d ∷ [])
    ∙ ap (λ (x : List ℕ). blank_before (take i fs) ++ 32 ∷ x) (append-nil (get_or fs i d)))

pub last_more : (fs : List (List ℕ)) (i last : ℕ) (d : List ℕ) → i < length fs
    → last_from last (blank_before (take (i + 1) fs)) ≡ last_from 32 (get_or fs i d)
last_more fs i last d l = ap (last_from last) (blank_more fs i d l)
    ∙ last_append last (blank_before (take i fs)) (32 ∷ get_or fs i d)
