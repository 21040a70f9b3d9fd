-- The edges beside a place.
use Rattle.std.proofs.Common.{◌≡◌, ℕ, zero, suc, ◌-◌, ◌<◌, ◌≤◌, Some, None, List, [], ◌∷◌, length}
use Rattle.std.proofs.Common.{get_or, refl, arith, ap, ◌∙◌}
use Rattle.plane.specs.Runs.Gaps.{edge_at, edge_before}

pub at_place : (es : List ℕ) (i : ℕ) → i < length es → edge_at es i ≡ Some (get_or es i 0)
at_place [] i l = absurd (omega (arith, l))
at_place (e ∷ es) zero l = refl
at_place (e ∷ es) (suc i) l = at_place es i (omega (arith, l))

pub past_end : (es : List ℕ) (i : ℕ) → length es ≤ i → edge_at es i ≡ None
past_end [] i l = refl
past_end (e ∷ es) zero l = absurd (omega (arith, l))
past_end (e ∷ es) (suc i) l = past_end es i (omega (arith, l))

pub before_place : (es : List ℕ) (i : ℕ) → (i ≡ 0 → ⊥) → i ≤ length es
    → edge_before es i ≡ Some (get_or es (i - 1) 0)
before_place es zero n l = absurd (n refl)
before_place es (suc i) n l = at_place es i (omega (arith, l))
    ∙ ap (λ (k : ℕ). Some (get_or es k 0)) (back i)
  where
    back : (i : ℕ) → i ≡ suc i - 1
    back i = omega arith
