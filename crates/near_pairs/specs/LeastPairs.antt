-- The least pair of numbers that is looked for.
use Rattle.std.specs.Prelude.{◌≡◌, ◌⊎◌, ℕ, ◌<◌, Option, None, Some}
use Rattle.near_pairs.specs.declared.pairs.NearPair.{NearPair}

-- The pair (i, j) is less than the pair (k, l): by the first number, then by the second.
abbrev pub IsLess : ℕ → ℕ → ℕ → ℕ → Type 0
IsLess i j k l = (i < k) ⊎ ((i ≡ k) × (j < l))

-- A pair of numbers below n that is sought, the lesser first.
pub record IsPair (is_sought : ℕ → ℕ → Type 0) (n : ℕ) (p : NearPair) : Type 0 where
  pub order : p.first < p.second
  pub there : p.second < n
  pub sought : is_sought p.first p.second

-- Such a pair, and none that is sought is less.
pub record IsLeastPair (sought : ℕ → ℕ → Type 0) (n : ℕ) (p : NearPair) : Type 0 where
  pub pair : IsPair sought n p
  pub least : (i j : ℕ) → i < j → j < n → sought i j → IsLess i j p.first p.second → ⊥

-- ---- while it is looked for
-- What was found so far is a pair that is sought.
abbrev pub IsFound : (ℕ → ℕ → Type 0) → ℕ → Option NearPair → Type 0
IsFound sought n None = Unit {0}
IsFound sought n (Some p) = IsPair sought n p

-- The pair would be better than what was found so far.
abbrev pub IsBetter : ℕ → ℕ → Option NearPair → Type 0
IsBetter i j None = Unit {0}
IsBetter i j (Some p) = IsLess i j p.first p.second

-- The pair is not sought, or not better than what was found.
abbrev pub IsPassed : (ℕ → ℕ → Type 0) → Option NearPair → ℕ → ℕ → Type 0
IsPassed sought best i j = sought i j → IsBetter i j best → ⊥

-- The pair of the two numbers, in their order, is passed.
pub record AreMet (sought : ℕ → ℕ → Type 0) (best : Option NearPair) (i j : ℕ) : Type 0 where
  pub forward : i < j → IsPassed sought best i j
  pub back : j < i → IsPassed sought best j i
