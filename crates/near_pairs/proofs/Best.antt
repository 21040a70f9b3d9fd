-- The best pair that was found so far.
use Rattle.std.proofs.Common.{◌≡◌, ◌⊎◌, inl, inr, ℕ, ◌<◌, Option, None, Some, sym, subst, arith}
use Rattle.near_pairs.specs.declared.pairs.NearPair.{NearPair}
use Rattle.near_pairs.specs.LeastPairs.{IsLess, IsLeastPair, IsFound, IsBetter, IsPassed, AreMet}

less_through : (i j k l m n : ℕ) → IsLess i j k l → IsLess k l m n → IsLess i j m n
less_through i j k l m n (inl a) (inl b) = inl (omega (arith, a, b))
less_through i j k l m n (inl a) (inr (e, b)) = inl (omega (arith, a, e))
less_through i j k l m n (inr (e, a)) (inl b) = inl (omega (arith, e, b))
less_through i j k l m n (inr (e, a)) (inr (f, b)) = inr (omega (arith, e, f), omega (arith, a, b))

not_itself : (i j : ℕ) → IsLess i j i j → ⊥
not_itself i j (inl a) = omega (arith, a)
not_itself i j (inr (e, a)) = omega (arith, a)

better_through : (i j k l : ℕ) (best : Option NearPair) → IsLess i j k l → IsBetter k l best
    → IsBetter i j best
better_through i j k l None h b = tt
better_through i j k l (Some p) h b = less_through i j k l p.first p.second h b

-- The pair took the place of what was found, or nothing changed.
abbrev pub IsStep : (ℕ → ℕ → Type 0) → NearPair → Option NearPair → Option NearPair → Type 0
IsStep sought p found result =
    ((result ≡ Some p) × sought p.first p.second × IsBetter p.first p.second found)
    ⊎ ((result ≡ found) × IsPassed sought found p.first p.second)

module _ (sought : ℕ → ℕ → Type 0) (p : NearPair) (found result : Option NearPair) where
  pub step_found : (n : ℕ) → p.first < p.second → p.second < n → IsFound sought n found
      → IsStep sought p found result → IsFound sought n result
  step_found n o t f (inl (e, s, b)) =
      subst (IsFound sought n) (sym e) (record { order = o; there = t; sought = s })
  step_found n o t f (inr (e, h)) = subst (IsFound sought n) (sym e) f

  pub step_kept : (i j : ℕ) → IsStep sought p found result → IsPassed sought found i j
      → IsPassed sought result i j
  step_kept i j (inl (e, s, b)) h =
      subst (λ (r : Option NearPair). IsPassed sought r i j) (sym e)
      (λ t l. h t (better_through i j p.first p.second found l b))
  step_kept i j (inr (e, q)) h = subst (λ (r : Option NearPair). IsPassed sought r i j) (sym e) h

  pub step_passed : IsStep sought p found result → IsPassed sought result p.first p.second
  step_passed (inl (e, s, b)) =
      subst (λ (r : Option NearPair). IsPassed sought r p.first p.second) (sym e)
      (λ t l. not_itself p.first p.second l)
  step_passed (inr (e, q)) =
      subst (λ (r : Option NearPair). IsPassed sought r p.first p.second) (sym e) q

  -- the two numbers of the pair, in either order
  pub step_met : (a b : ℕ) → (a < b → (p.first ≡ a) × (p.second ≡ b))
      → (b < a → (p.first ≡ b) × (p.second ≡ a)) → IsStep sought p found result
      → AreMet sought result a b
  step_met a b f g s = record {
    forward = λ l. let e = f l in
        subst (λ (i : ℕ). IsPassed sought result i b) e.0
        (subst (λ (j : ℕ). IsPassed sought result p.first j) e.1 (step_passed s));
    back = λ l. let e = g l in
        subst (λ (i : ℕ). IsPassed sought result i a) e.0
        (subst (λ (j : ℕ). IsPassed sought result p.first j) e.1 (step_passed s));
  }

-- a number with itself is no pair
pub met_itself : (sought : ℕ → ℕ → Type 0) (best : Option NearPair) (a b : ℕ) → b ≡ a
    → AreMet sought best a b
met_itself sought best a b e = record {
  forward = λ l. absurd (omega (arith, l, e));
  back = λ l. absurd (omega (arith, l, e));
}

-- what was met stays so where what is passed stays so
pub met_kept : (sought : ℕ → ℕ → Type 0) (best next : Option NearPair) (a b : ℕ)
    → ((i j : ℕ) → IsPassed sought best i j → IsPassed sought next i j) → AreMet sought best a b
    → AreMet sought next a b
met_kept sought best next a b k m =
    record { forward = λ l. k a b (m.forward l); back = λ l. k b a (m.back l) }

-- ---- at the end
pub all_passed : (sought : ℕ → ℕ → Type 0) (n : ℕ) (p : NearPair) → IsFound sought n (Some p)
    → ((i j : ℕ) → i < j → j < n → IsPassed sought (Some p) i j) → IsLeastPair sought n p
all_passed sought n p f h = record { pair = f; least = λ i j l m s. h i j l m s }

pub none_sought : (sought : ℕ → ℕ → Type 0) (n : ℕ) (best : Option NearPair) → best ≡ None
    → ((i j : ℕ) → i < j → j < n → IsPassed sought best i j) → (i j : ℕ) → i < j → j < n
    → sought i j → ⊥
none_sought sought n best e h i j l m s = h i j l m s (subst (IsBetter i j) (sym e) tt)
