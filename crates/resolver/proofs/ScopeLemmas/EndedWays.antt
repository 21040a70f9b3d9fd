-- Ways that end, and domains that lead back to themselves.
use Rattle.std.proofs.Common.{◌≡◌, ℕ, zero, suc, ◌+◌, ◌-◌, ◌*◌, ◌<◌, ◌≤◌, true, Option, None, ap}
use Rattle.std.proofs.Common.{sym, ◌∙◌, arith}
use Rattle.std.specs.Option.{unwrap_or, IfSome}
use Rattle.resolver.specs.Scopes.{reached, comes_to}
use Rattle.resolver.proofs.ListLemmas.Reaching.{reached_add, step_within}
use Rattle.resolver.proofs.ScopeLemmas.Circles.{two_equal, stays, back_is_found, found_is_back}
use Rattle.resolver.proofs.ScopeLemmas.Circles.{found_goes_on}
use Rattle.resolver.proofs.ScopeLemmas.Circles.{rounds_back, more_steps}

-- each step leads to a number below n
abbrev pub AreWithin : (ℕ → Option ℕ) → ℕ → Type 0
AreWithin step n = (i : ℕ) → IfSome (step i) (λ k. k < n)

reached_below : (step : ℕ → Option ℕ) (n k from : ℕ) → AreWithin step n → from < n
    → reached step k from < n
unfolding reached
reached_below step n zero from w lt = lt
reached_below step n (suc k) from w lt =
    reached_below step n k (unwrap_or (step from) from) w
    (step_within (step from) from n lt (w from))

-- far out a way has come back to where it was
round : (step : ℕ → Option ℕ) (n far from : ℕ) → AreWithin step n → n ≤ far → from < n
    → (m : ℕ) × (suc m ≤ far)
    × (reached step (suc m) (reached step far from) ≡ reached step far from)
round step n far from w le lt =
    let same = two_equal n (λ k. reached step k from) (λ k _. reached_below step n k from w lt) in
    let p : ℕ = same.0 in
    let q : ℕ = same.1 in
    let m : ℕ = (q - p) - 1 in
    let once : far + suc m ≡ q + (far - p) = omega (arith, same.2, same.3, le) in
    let whole : p + (far - p) ≡ far = omega (arith, same.2, same.3, le) in (
      m,
      omega (arith, same.2, same.3, le),
      sym (reached_add step far (suc m) from) ∙ ap (λ (k : ℕ). reached step k from) once
          ∙ reached_add step q (far - p) from ∙ ap (reached step (far - p)) (sym same.4)
          ∙ sym (reached_add step p (far - p) from) ∙ ap (λ (k : ℕ). reached step k from) whole,
    )

-- a way that ends somewhere has ended far out
pub ended : (step : ℕ → Option ℕ) (n far k from end : ℕ) → AreWithin step n → n ≤ far → from < n
    → reached step k from ≡ end → step end ≡ None → reached step far from ≡ end
ended step n far k from end w le lt at e =
    let r = round step n far from w le lt in
    let x : ℕ = reached step far from in
    let around : reached step (k * suc r.0) x ≡ x = rounds_back step x (suc r.0) k r.2 in
    let more : far + k * suc r.0 ≡ k + (far + k * r.0) = grind arith in
    sym around ∙ sym (reached_add step far (k * suc r.0) from)
    ∙ ap (λ (c : ℕ). reached step c from) more ∙ reached_add step k (far + k * r.0) from
    ∙ ap (reached step (far + k * r.0)) at ∙ stays step (far + k * r.0) end e

-- one that leads back to itself in some steps does in few
pub back_in_few : (step : ℕ → Option ℕ) (n far k i : ℕ) → AreWithin step n → n ≤ far → i < n
    → comes_to step i k i ≡ true → comes_to step i far i ≡ true
back_in_few step n far k i w le lt e =
    let back = found_is_back step i k i e in
    let from : ℕ = reached step (far * back.0) i in
    let total : far * back.0 + far ≡ far * suc back.0 = grind arith in
    let here : reached step far from ≡ i = sym (reached_add step (far * back.0) far i)
    ∙ ap (λ (c : ℕ). reached step c i) total ∙ rounds_back step i (suc back.0) far back.2 in
    let r = round step n far from w le (reached_below step n (far * back.0) i w lt) in
    let again : reached step (suc r.0) i ≡ i = ap (reached step (suc r.0)) (sym here) ∙ r.2
    ∙ here in
    let rest : suc r.0 + (far - suc r.0) ≡ far = omega (arith, r.1) in
    ap (λ (c : ℕ). comes_to step i c i) (sym rest)
    ∙ more_steps step i (suc r.0) (far - suc r.0) i
    (back_is_found step i r.0 i (found_goes_on step i k i e) again)
