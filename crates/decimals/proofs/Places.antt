-- Bytes that are written one after the other.
use Rattle.std.proofs.Common.{◌≡◌, ℕ, ◌+◌, ◌-◌, ◌≤◌, List, ◌++◌, length, take, drop, replicate}
use Rattle.std.proofs.Common.{decimal, sym, ap, ◌∙◌, arith, append_assoc}
use Rattle.std.proofs.lemmas.List.{drop-drop, take-replicate}
use Rattle.decimals.specs.Written.{padded}

-- what is the same behind one place is so behind a later one
pub drop_later : (m n : ℕ) (xs ys : List ℕ) → m ≤ n → drop m xs ≡ drop m ys → drop n xs ≡ drop n ys
drop_later m n xs ys h e =
    let k : m + (n - m) ≡ n = omega arith in
    let t = sym (drop-drop (n - m) m xs) ∙ ap (drop (n - m)) e ∙ drop-drop (n - m) m ys in
    rw k at t

-- zeros and digits behind what is written
pub padded_behind : (digits n : ℕ) (front text : List ℕ) → text ≡ decimal n → digits ≤ 9
    → (front ++ take (digits - length text) (replicate 9 48)) ++ text ≡ front ++ padded digits n
padded_behind digits n front text e h =
    rw (e, take-replicate {X = ℕ} (digits - length (decimal n)) 9 48 (omega arith))
    (append_assoc front _ (decimal n))
