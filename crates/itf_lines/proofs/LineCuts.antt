-- Where physical lines end.
use Rattle.std.proofs.Common.{◌≡◌, ◌≤◌, ◌<◌, ◌+◌, ◌-◌, ◌==◌, ℕ, zero, suc, Bool, true, false, not}
use Rattle.std.proofs.Common.{cond, ◌&&◌, List, [], ◌∷◌, ◌++◌, length, map, take, drop, refl, ap}
use Rattle.std.proofs.Common.{sym, ◌∙◌, subst, arith, Some, None, nat_lt}
use Rattle.std.proofs.lemmas.Bool.{eqb-true}
use Rattle.std.specs.Prelude.{slice_index}
use Rattle.std.proofs.lemmas.List.{length-drop, length-append, take_more, take_all, drop_all}
use Rattle.std.proofs.lemmas.List.{get_or-take, length-take-le, append_assoc, take_rest}
use Rattle.bstr.specs.Text.{lines_from, lines_of, line_len, without_terminator, no_cr}
use Rattle.bstr.specs.Find.{IsFirstByte, is_byte}
use Rattle.itf_lines.specs.Fields.{physical_lines}
use Rattle.itf_lines.specs.FeedStates.{has_no_lf}
use Rattle.itf_lines.specs.Feeds.{IsEnded}

len_ended : (a b : List ℕ) → has_no_lf a ≡ true → line_len (a ++ 10 ∷ b) ≡ suc (length a)
unfolding line_len
len_ended [] b h = refl
len_ended (c ∷ a) b h =
    elim (c == 10) as (λ t. (not t && has_no_lf a) ≡ true
    → cond t 1 (suc (line_len (a ++ 10 ∷ b))) ≡ suc (suc (length a))) [
      | true ↦ λ g. absurd cc
      | false ↦ λ g. ap suc (len_ended a b g)
    ] h

len_open : (a : List ℕ) → has_no_lf a ≡ true → line_len a ≡ length a
unfolding line_len
len_open [] h = refl
len_open (c ∷ a) h =
    elim (c == 10) as (λ t. (not t && has_no_lf a) ≡ true
    → cond t 1 (suc (line_len a)) ≡ suc (length a)) [
      | true ↦ λ g. absurd cc
      | false ↦ λ g. ap suc (len_open a g)
    ] h

len_some : (c : ℕ) (a : List ℕ) → 1 ≤ line_len (c ∷ a)
unfolding line_len
len_some c a =
    elim (c == 10) as (λ t. 1 ≤ cond t 1 (suc (line_len a))) [
      | true ↦ omega arith
      | false ↦ omega arith
    ]

-- more fuel than bytes is of no use
fuel : (n m : ℕ) (bs : List ℕ) → length bs ≤ n → length bs ≤ m → lines_from n bs ≡ lines_from m bs
unfolding lines_from
fuel zero zero [] h k = refl
fuel zero (suc m) [] h k = refl
fuel (suc n) zero [] h k = refl
fuel (suc n) (suc m) [] h k = refl
fuel (suc n) (suc m) (c ∷ bs) h k =
    let d = length-drop (line_len (c ∷ bs)) (c ∷ bs) in
    let s = len_some c bs in
    ap (λ (ls : List (List ℕ)). take (line_len (c ∷ bs)) (c ∷ bs) ∷ ls)
    (fuel n m (drop (line_len (c ∷ bs)) (c ∷ bs)) (omega (arith, h, d, s))
    (omega (arith, k, d, s)))
fuel zero m (c ∷ bs) h k = absurd (omega (arith, h))
fuel (suc n) zero (c ∷ bs) h k = absurd (omega (arith, k))

first_line : (c : ℕ) (bs : List ℕ) (k : ℕ) → line_len (c ∷ bs) ≡ k
    → lines_of (c ∷ bs) ≡ take k (c ∷ bs) ∷ lines_from (length bs) (drop k (c ∷ bs))
unfolding lines_from
first_line c bs k h = ap (λ (n : ℕ). take n (c ∷ bs) ∷ lines_from (length bs) (drop n (c ∷ bs))) h

take_over : (a b : List ℕ) (x : ℕ) → take (suc (length a)) (a ++ x ∷ b) ≡ a ++ x ∷ []
take_over [] b x = refl
take_over (c ∷ a) b x = ap (λ (l : List ℕ). c ∷ l) (take_over a b x)

drop_over : (a b : List ℕ) (x : ℕ) → drop (suc (length a)) (a ++ x ∷ b) ≡ b
drop_over [] b x = refl
drop_over (c ∷ a) b x = drop_over a b x

cut_lines : (a b : List ℕ) → has_no_lf a ≡ true
    → lines_of (a ++ 10 ∷ b) ≡ (a ++ 10 ∷ []) ∷ lines_of b
cut_lines [] b h = first_line 10 b 1 (len_ended [] b h)
cut_lines (c ∷ a) b h =
    let l = length-append a (10 ∷ b) in
    first_line c (a ++ 10 ∷ b) (suc (suc (length a))) (len_ended (c ∷ a) b h)
    ∙ rw (take_over a b 10, drop_over a b 10)
    (ap (λ (ls : List (List ℕ)). (c ∷ (a ++ 10 ∷ [])) ∷ ls)
    (fuel (length (a ++ 10 ∷ b)) (length b) b (omega (arith, l)) (omega arith)))

-- a line ends with its LF, whatever follows
pub cut_physical : (a b : List ℕ) → has_no_lf a ≡ true
    → physical_lines (a ++ 10 ∷ b) ≡ without_terminator (a ++ 10 ∷ []) ∷ physical_lines b
cut_physical a b h = ap (map without_terminator) (cut_lines a b h)

no_lf_at : (bs : List ℕ) (i : ℕ) → has_no_lf bs ≡ true → i < length bs
    → (slice_index bs i == 10) ≡ false
no_lf_at [] i h k = absurd (omega (arith, k))
no_lf_at (c ∷ bs) zero h k =
    elim (c == 10) as (λ t. (not t && has_no_lf bs) ≡ true → t ≡ false) [
      | true ↦ λ g. absurd cc
      | false ↦ λ g. refl
    ] h
no_lf_at (c ∷ bs) (suc i) h k =
    elim (c == 10) as (λ t. (not t && has_no_lf bs) ≡ true
    → (slice_index bs i == 10) ≡ false) [
      | true ↦ λ g. absurd cc
      | false ↦ λ g. no_lf_at bs i g (omega (arith, k))
    ] h

and_false : (b : Bool) → (b && false) ≡ false
and_false true = refl
and_false false = refl

open_kept : (c : ℕ) (bs : List ℕ) → has_no_lf (c ∷ bs) ≡ true → without_terminator (c ∷ bs) ≡ c ∷ bs
open_kept c bs h =
    let e : (nat_lt 0 (length (c ∷ bs)) && slice_index (c ∷ bs) (length (c ∷ bs) - 1) == 10)
    ≡ false =
    ap (λ (t : Bool). nat_lt 0 (length (c ∷ bs)) && t)
    (no_lf_at (c ∷ bs) (length (c ∷ bs) - 1) h (omega arith))
    ∙ and_false (nat_lt 0 (length (c ∷ bs))) in
    ap (λ (t : Bool). cond t (no_cr (take (length (c ∷ bs) - 1) (c ∷ bs))) (c ∷ bs)) e

no_lines : (n : ℕ) → lines_from n [] ≡ []
unfolding lines_from
no_lines zero = refl
no_lines (suc n) = refl

-- bytes without LF are one line
pub open_physical : (bs : List ℕ) → has_no_lf bs ≡ true → 0 < length bs
    → physical_lines bs ≡ bs ∷ []
open_physical [] h k = absurd (omega (arith, k))
open_physical (c ∷ bs) h k =
    let one : lines_of (c ∷ bs) ≡ (c ∷ bs) ∷ [] =
    first_line c bs (suc (length bs)) (len_open (c ∷ bs) h)
    ∙ rw (
      take_all (length bs) bs (omega arith),
      drop_all (length bs) bs (omega arith),
      no_lines (length bs),
    ) refl in
    ap (map without_terminator) one ∙ ap (λ (l : List ℕ). l ∷ []) (open_kept c bs h)

pub nothing_physical : physical_lines [] ≡ []
nothing_physical = ap (map without_terminator) (no_lines 0)

pub no_lf-append : (a b : List ℕ) → has_no_lf a ≡ true → has_no_lf b ≡ true
    → has_no_lf (a ++ b) ≡ true
no_lf-append [] b h k = k
no_lf-append (c ∷ a) b h k =
    elim (c == 10) as (λ t. (not t && has_no_lf a) ≡ true
    → (not t && has_no_lf (a ++ b)) ≡ true) [
      | true ↦ λ g. absurd cc
      | false ↦ λ g. no_lf-append a b g k
    ] h

none_lf : (bs : List ℕ) → ((k : ℕ) → k < length bs → (slice_index bs k == 10) ≡ true → ⊥)
    → has_no_lf bs ≡ true
none_lf [] h = refl
none_lf (c ∷ bs) h = elim (c == 10) as (λ t. (c == 10) ≡ t → (not t && has_no_lf bs) ≡ true) [
  | true ↦ λ e. absurd (h 0 (omega arith) e)
  | false ↦ λ e. none_lf bs (λ k l g. h (suc k) (omega (arith, l)) g)
] refl

regrouped : (b f z : List ℕ) → b ++ ((f ++ 10 ∷ []) ++ z) ≡ (b ++ f) ++ 10 ∷ z
regrouped b f z = ap (λ (l : List ℕ). b ++ l) (append_assoc f (10 ∷ []) z)
    ∙ sym (append_assoc b f (10 ∷ z))

-- the last bytes of a physical line, after those before
pub cut_begun : (b bytes : List ℕ) → has_no_lf b ≡ true → IsEnded bytes → (z : List ℕ)
    → physical_lines (b ++ (bytes ++ z)) ≡ without_terminator (b ++ bytes) ∷ physical_lines z
cut_begun b bytes h k z =
    let whole : (b ++ k.front) ++ 10 ∷ [] ≡ b ++ bytes = append_assoc b k.front (10 ∷ [])
    ∙ ap (λ (l : List ℕ). b ++ l) (sym k.ends) in
    ap (λ (l : List ℕ). physical_lines (b ++ (l ++ z))) k.ends
    ∙ (ap physical_lines (regrouped b k.front z)
    ∙ (cut_physical (b ++ k.front) z (no_lf-append b k.front h k.plain)
    ∙ ap (λ (l : List ℕ). without_terminator l ∷ physical_lines z) whole))

-- where no LF is found
pub none_found : (bs : List ℕ) → IsFirstByte (is_byte 10) bs None → has_no_lf bs ≡ true
none_found bs h = none_lf bs (λ k l e. h k (omega arith) l e)

-- up to and with the first one
pub first_found : (bs : List ℕ) (k : ℕ) → IsFirstByte (is_byte 10) bs (Some k)
    → IsEnded (take (k + 1) bs)
first_found bs k h =
    let inside : k < length bs = h.0.high in
    let t = length-take-le k bs (omega (arith, inside)) in
    record {
      front = take k bs;
      plain = none_lf (take k bs)
          (λ i l e. h.0.before i (omega arith) (omega (arith, l, t))
          (sym (ap (λ (x : ℕ). x == 10) (get_or-take k bs i 0 (omega (arith, l, t)))) ∙ e));
      ends = take_more bs k 0 inside
          ∙ ap (λ (x : ℕ). take k bs ++ x ∷ []) (eqb-true (slice_index bs k) 10 h.1);
    }

-- the same of what is left of a piece from a place on
pub found_from : (piece : List ℕ) (at end : ℕ)
    → IsFirstByte (is_byte 10) (take (length piece - at) (drop at piece)) (Some end)
    → IsEnded (take (at + end + 1 - at) (drop at piece))
found_from piece at end h =
    let n : at + end + 1 - at ≡ end + 1 = omega arith in
    subst (λ (m : ℕ). IsEnded (take m (drop at piece))) (sym n)
    (first_found (drop at piece) end
    (subst (λ (l : List ℕ). IsFirstByte (is_byte 10) l (Some end)) (take_rest piece at) h))

pub found_within : (piece : List ℕ) (at end : ℕ) → at ≤ length piece
    → IsFirstByte (is_byte 10) (take (length piece - at) (drop at piece)) (Some end)
    → at + end + 1 ≤ length piece
found_within piece at end h k =
    let l : end < length (take (length piece - at) (drop at piece)) = k.0.high in
    let e = ap length (take_rest piece at) ∙ length-drop at piece in
    omega (arith, l, e, h)

pub none_from : (piece : List ℕ) (at : ℕ)
    → IsFirstByte (is_byte 10) (take (length piece - at) (drop at piece)) None
    → has_no_lf (take (length piece - at) (drop at piece)) ≡ true
none_from piece at h = none_found (take (length piece - at) (drop at piece)) h
