-- First entries of lists in order.
use Rattle.std.proofs.Common.{◌≡◌, ℕ, zero, suc, ◌+◌, ◌<◌, ◌≤◌, List, [], ◌∷◌, length, map}
use Rattle.std.proofs.Common.{refl, sym, subst, ap, ◌∙◌, arith, get_or}
use Rattle.std.specs.List.{Contains}
use Rattle.std.specs.List.Sorted.{IsStrictlyIncreasing}
use Rattle.std.proofs.lemmas.List.{get_or-map, length-map}
use Rattle.area_faults.specs.Firsts.{BeginsWith}

first_least : (ns : List ℕ) (k : ℕ) → IsStrictlyIncreasing ns → k < length ns
    → get_or ns 0 0 ≤ get_or ns k 0
first_least ns zero h l = omega arith
first_least ns (suc k) h l =
    let a = first_least ns k h (omega (arith, l)) in
    let b : get_or ns k 0 < get_or ns (k + 1) 0 = h k (omega (arith, l)) in
    let e : k + 1 ≡ suc k = omega arith in
    let c : get_or ns k 0 < get_or ns (suc k) 0 = subst (λ n. get_or ns k 0 < get_or ns n 0) e b in
    omega (arith, a, c)

-- numbers by themselves
map_self : (xs : List ℕ) → map (λ (n : ℕ). n) xs ≡ xs
map_self [] = refl
map_self (x ∷ xs) = ap (λ ys. x ∷ ys) (map_self xs)

pub by_itself : (xs : List ℕ) → IsStrictlyIncreasing xs
    → IsStrictlyIncreasing (map (λ (n : ℕ). n) xs)
by_itself xs h = subst (λ ys. IsStrictlyIncreasing ys) (sym (map_self xs)) h

module _ {A : Type 0} where
  nothing : (x : A) → Contains [] x → ⊥
  nothing x (k, l, e) = omega (arith, l)

  pub none_in : (xs : List A) (x : A) → xs ≡ [] → Contains xs x → ⊥
  none_in xs x e c = nothing x (subst (λ (ys : List A). Contains ys x) e c)

  pub no_entry : (xs : List A) → ((x : A) → Contains xs x → ⊥) → xs ≡ []
  no_entry [] h = refl
  no_entry (x ∷ xs) h = absurd (h x (0, omega arith, refl))

  pub no_begin : (xs : List A) (x : A) → xs ≡ [] → BeginsWith xs x → ⊥
  no_begin xs x e (rest, f) = absurd (cc (e, f))

  module _ (number : A → ℕ) where
    head_least : (y : A) (ys : List A) (x : A) → IsStrictlyIncreasing (map number (y ∷ ys))
        → Contains (y ∷ ys) x → number y ≤ number x
    head_least y ys x h (k, l, e) =
        let m : k < length (map number (y ∷ ys)) = omega (arith, l, length-map (y ∷ ys) number) in
        let a = first_least (map number (y ∷ ys)) k h m in
        let b : get_or (map number (y ∷ ys)) k 0 ≡ number x = get_or-map number (y ∷ ys) k x 0 l
        ∙ ap number e in
        omega (arith, a, b)

    -- An entry with which no other one has as low a number is the first one.
    pub begins : (xs : List A) (x : A) → IsStrictlyIncreasing (map number xs) → Contains xs x
        → ((y : A) → Contains xs y → number y ≤ number x → y ≡ x) → BeginsWith xs x
    begins [] x h c one = absurd (nothing x c)
    begins (y ∷ ys) x h c one =
        let e : y ≡ x = one y (0, omega arith, refl) (head_least y ys x h c) in
        (ys, ap (λ (v : A). v ∷ ys) e)
