-- Small words on numbers.
use Rattle.std.proofs.Common.{◌≡◌, ℕ, zero, suc, ◌+◌, ◌<◌, ◌≤◌, List, [], ◌∷◌, ◌++◌, length, get_or}
use Rattle.std.proofs.Common.{length-append, ap, refl, sym, subst, ◌∙◌, arith}

-- below k + 1: below k, or k
pub less_or : (j k : ℕ) (P : Type 0) → j < k + 1 → (j < k → P) → (j ≡ k → P) → P
less_or zero zero P l f g = g refl
less_or zero (suc k) P l f g = f (omega arith)
less_or (suc j) zero P l f g = absurd (omega (arith, l))
less_or (suc j) (suc k) P l f g =
    less_or j k P (omega (arith, l)) (λ m. f (omega (arith, m))) (λ e. g (ap suc e))

-- x below y, or not
pub by_lt : {P : Type 0} (x y : ℕ) → (x < y → P) → (y ≤ x → P) → P
by_lt zero zero f g = g (omega arith)
by_lt zero (suc y) f g = f (omega arith)
by_lt (suc x) zero f g = g (omega arith)
by_lt (suc x) (suc y) f g = by_lt x y (λ l. f (omega (arith, l))) (λ l. g (omega (arith, l)))

-- functions that agree everywhere are equal
pub funext : {A B : Type 0} (f g : A → B) → ((x : A) → f x ≡ g x) → f ≡ g
funext f g e = λ i. λ x. e x i

-- ---- a list with one entry more
front_entry : {X : Type 0} (xs : List X) (x y : X) (j : ℕ) → j < length xs
    → get_or (xs ++ x ∷ []) j y ≡ get_or xs j y
front_entry [] x y j l = absurd (omega (arith, l))
front_entry (z ∷ xs) x y zero l = refl
front_entry (z ∷ xs) x y (suc j) l = front_entry xs x y j (omega (arith, l))

last_entry : {X : Type 0} (xs : List X) (x y : X) → get_or (xs ++ x ∷ []) (length xs) y ≡ x
last_entry [] x y = refl
last_entry (z ∷ xs) x y = last_entry xs x y

pub one_more_size : {X : Type 0} (xs ys : List X) (x : X) (k : ℕ) → length xs ≡ k
    → ys ≡ xs ++ x ∷ [] → length ys ≡ k + 1
one_more_size xs ys x k n e =
    (let a = length-append xs (x ∷ []) in let b = ap length e in omega (arith, a, b, n))

pub one_more : {X : Type 0} (P : ℕ → X → Type 0) (xs ys : List X) (x y : X) (k : ℕ) → length xs ≡ k
    → ys ≡ xs ++ x ∷ []
    → ((j : ℕ) → j < k → P j (get_or xs j y)) → P k x → (j : ℕ) → j < k + 1 → P j (get_or ys j y)
one_more P xs ys x y k n e h p j l = less_or j k (P j (get_or ys j y)) l
    (λ m. subst (P j)
    (sym (ap (λ (zs : List _). get_or zs j y) e ∙ front_entry xs x y j (omega (arith, m, n))))
    (h j m))
    (λ q. subst (λ (i : ℕ). P i (get_or ys i y)) (sym q)
    (subst (P k)
    (sym (ap (λ (zs : List _). get_or zs k y) e
    ∙ ap (λ (i : ℕ). get_or (xs ++ x ∷ []) i y) (sym n) ∙ last_entry xs x y)) p))
