-- Chains of names, as the code follows them.
use Rattle.std.specs.Prelude.{◌≡◌, ℕ, ◌<◌, List, length, slice_get, slice_index, slice_index_or}
use Rattle.std.specs.Prelude.{Bool, false, Option, None}
use Rattle.std.specs.Option.{unwrap_or, IfSome}
use Rattle.resolver.specs.Scopes.{reached, comes_to, longest}

-- the step from each domain, as a list
abbrev pub step_in : List (Option ℕ) → ℕ → Option ℕ
step_in steps i = unwrap_or (slice_get steps i) None

-- each step leads to one of the domains
abbrev pub StepsWithin : List (Option ℕ) → Type 0
StepsWithin steps = (i : ℕ) → IfSome (step_in steps i) (λ k. k < length steps)

-- for each of n domains the one to which so many steps lead
pub record IsJump (step : ℕ → Option ℕ) (count n : ℕ) (jumps : List ℕ) : Type 0 where
  pub long : length jumps ≡ n
  pub within : (i : ℕ) → i < n → slice_index jumps i < n
  pub lands : (i : ℕ) → i < n → slice_index jumps i ≡ reached step count i

-- for each domain whether it leads back to itself
pub record AreCyclic (steps : List (Option ℕ)) (marks : List Bool) : Type 0 where
  pub long : length marks ≡ length steps
  pub found : (i : ℕ) → i < length steps
      → slice_index_or marks i false ≡ comes_to (step_in steps) i longest i
