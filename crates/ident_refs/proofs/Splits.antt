-- Lists that are split at one of their elements.
use Rattle.std.proofs.Common.{◌≡◌, ℕ, suc, zero, ◌+◌, ◌<◌, List, [], ◌∷◌, ◌++◌, length, take, drop}
use Rattle.std.proofs.Common.{get_or, map, sym, ap, ◌∙◌, arith, add-one}

pub split_suc : {X Y : Type 0} (f : X → Y) (i : ℕ) (xs : List X) (x : X) → i < length xs
    → x ≡ get_or xs i x
    → (drop i (map f xs) ≡ f x ∷ drop (suc i) (map f xs))
    × (take (suc i) (map f xs) ≡ take i (map f xs) ++ f x ∷ [])
split_suc f i [] x lt at = absurd (omega arith)
split_suc {X} {Y} f zero (y ∷ xs) x lt at =
    (ap (λ (z : X). f z ∷ map f xs) (sym at), ap (λ (z : X). f z ∷ []) (sym at))
split_suc {X} {Y} f (suc i) (y ∷ xs) x lt at =
    let s = split_suc f i xs x (omega arith) at in (s.0, ap (λ (l : List Y). f y ∷ l) s.1)

pub split : {X Y : Type 0} (f : X → Y) (i : ℕ) (xs : List X) (x : X) → i < length xs
    → x ≡ get_or xs i x
    → (drop i (map f xs) ≡ f x ∷ drop (i + 1) (map f xs))
    × (take (i + 1) (map f xs) ≡ take i (map f xs) ++ f x ∷ [])
split {X} {Y} f i xs x lt at =
    let s = split_suc f i xs x lt at in (
      s.0 ∙ ap (λ (j : ℕ). f x ∷ drop j (map f xs)) (sym (add-one i)),
      ap (λ (j : ℕ). take j (map f xs)) (add-one i) ∙ s.1,
    )
