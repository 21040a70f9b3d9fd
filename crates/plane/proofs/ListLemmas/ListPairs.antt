-- Lists of which every two elements are related.
use Rattle.std.proofs.Common.{ℕ, zero, suc, ◌<◌, List, [], ◌∷◌, ◌++◌, length, get_or, arith}
use Rattle.plane.specs.Lists.{Each}
use Rattle.plane.proofs.ListLemmas.Lists.{each_append}

-- R holds of each two elements, the first of which stands before the second
abbrev pub Pairs : {X : Type 0} → (X → X → Type 0) → List X → Type 0
Pairs R [] = Unit {0}
Pairs R (x ∷ xs) = Each (R x) xs × Pairs R xs

pub pairs_append : {X : Type 0} (R : X → X → Type 0) (xs ys : List X) → Pairs R xs → Pairs R ys
    → Each (λ x. Each (R x) ys) xs → Pairs R (xs ++ ys)
pairs_append R [] ys h k c = k
pairs_append R (x ∷ xs) ys h k c = (each_append (R x) xs ys h.0 c.0, pairs_append R xs ys h.1 k c.1)

pub each_at : {X : Type 0} (P : X → Type 0) (xs : List X) (i : ℕ) (x : X) → Each P xs
    → i < length xs → P (get_or xs i x)
each_at P [] i x h l = absurd (omega (arith, l))
each_at P (y ∷ ys) zero x h l = h.0
each_at P (y ∷ ys) (suc i) x h l = each_at P ys i x h.1 (omega (arith, l))

pub pairs_at : {X : Type 0} (R : X → X → Type 0) (xs : List X) (i j : ℕ) (x : X) → Pairs R xs
    → i < j → j < length xs → R (get_or xs i x) (get_or xs j x)
pairs_at R [] i j x h k l = absurd (omega (arith, l))
pairs_at R (y ∷ ys) i zero x h k l = absurd (omega (arith, k))
pairs_at R (y ∷ ys) zero (suc j) x h k l = each_at (R y) ys j x h.0 (omega (arith, l))
pairs_at R (y ∷ ys) (suc i) (suc j) x h k l =
    pairs_at R ys i j x h.1 (omega (arith, k)) (omega (arith, l))
