-- Entries of lists, as a program looks them up and adds them, and cases on the order of two
-- numbers.
use Rattle.std.proofs.Common.{◌≡◌, ℕ, zero, suc, ◌+◌, ◌<◌, ◌≤◌, List, [], ◌∷◌, ◌++◌, length, get_or}
use Rattle.std.proofs.Common.{refl, arith, sym, subst}
use Rattle.std.proofs.lemmas.List.{get_or_append_left, get_or-append-add}

-- x below y, or not
pub by_lt : {P : Type 0} (x y : ℕ) → (x < y → P) → (y ≤ x → P) → P
by_lt zero zero f g = g (omega arith)
by_lt zero (suc y) f g = f (omega arith)
by_lt (suc x) zero f g = g (omega arith)
by_lt (suc x) (suc y) f g = by_lt x y (λ l. f (omega (arith, l))) (λ l. g (omega (arith, l)))

-- an entry that is there does not depend on what stands for those that are not
pub entry : {X : Type 0} (xs : List X) (k : ℕ) (y z : X) → k < length xs
    → get_or xs k y ≡ get_or xs k z
entry [] k y z l = absurd (omega (arith, l))
entry (x ∷ xs) zero y z l = refl
entry (x ∷ xs) (suc k) y z l = entry xs k y z (omega (arith, l))

pub pushed : {X : Type 0} (P : ℕ → X → Type 0) (xs new : List X) (x z : X) (i : ℕ) → length xs ≡ i
    → new ≡ xs ++ x ∷ [] → ((k : ℕ) → k < i → P k (get_or xs k z)) → P i x → (k : ℕ) → k < i + 1
    → P k (get_or new k z)
pushed P xs new x z i s e f p k l =
    subst (λ ys. P k (get_or ys k z)) (sym e)
    (by_lt k i
    (λ (m : k < i). subst (P k) (sym (get_or_append_left xs (x ∷ []) z k (omega (arith, m, s))))
    (f k m))
    (λ (m : i ≤ k). subst (λ (n : ℕ). P n (get_or (xs ++ x ∷ []) n z))
    (last (length xs) k (omega (arith, l, m, s)))
    (subst (P (length xs + 0)) (sym (get_or-append-add xs (x ∷ []) 0 z))
    (subst (λ (n : ℕ). P n x) (here i (length xs) (sym s)) p))))
  where
    last : (n k : ℕ) → k ≡ n → n + 0 ≡ k
    last n k q = omega (arith, q)

    here : (i n : ℕ) → i ≡ n → i ≡ n + 0
    here i n q = omega (arith, q)
