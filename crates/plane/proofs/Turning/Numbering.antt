-- Half-edges by the numbers 2 e and 2 e + 1.
-- Two neighbours of a live list are across a cell, its first edge and its last one touch the
-- border.
use Rattle.std.proofs.Common.{◌≡◌, ℕ, zero, suc, ◌+◌, ◌≤◌, length, refl, arith, ap, ◌∙◌, inl, inr}
use Rattle.plane.specs.Faces.Replays.{Replay}
use Rattle.plane.specs.Faces.Halves.{Half, under, over, number, half_of, shifted, At}
use Rattle.plane.specs.Faces.Classes.{Across, Touches}
use Rattle.plane.proofs.Turning.ListPlaces.{at_less}

half_even : (e : ℕ) → half_of (e + e) ≡ under e
half_even zero = refl
half_even (suc e) =
    let q : suc e + suc e ≡ suc (suc (e + e)) = omega arith in
    ap half_of q ∙ ap shifted (half_even e)

half_odd : (e : ℕ) → half_of (suc (e + e)) ≡ over e
half_odd zero = refl
half_odd (suc e) =
    let q : suc (suc e + suc e) ≡ suc (suc (suc (e + e))) = omega arith in
    ap half_of q ∙ ap shifted (half_odd e)

pub half_number : (h : Half) → half_of (number h) ≡ h
half_number (under e) = half_even e
half_number (over e) = half_odd e

number_shifted : (h : Half) → number (shifted h) ≡ suc (suc (number h))
number_shifted (under e) = omega arith
number_shifted (over e) = omega arith

pub number_half : (n : ℕ) → number (half_of n) ≡ n
number_half zero = refl
number_half (suc zero) = refl
number_half (suc (suc n)) =
    let a = number_shifted (half_of n) in let b = number_half n in omega (arith, a, b)

module _ (r : Replay) (k : ℕ) (fits : k ≤ r.steps) where
  -- two neighbours of a live list are across a cell
  pub neighbours_across : (i d e : ℕ) → At (r.list k) i d → At (r.list k) (suc i) e
      → Across r (over d) (under e)
  neighbours_across i d e a b =
      let l = at_less (r.list k) (suc i) e b in
      (record { strip = k; index = suc i }, record { strip = fits; index = omega (arith, l) }, a, b)

  -- the first one and the last one are at the border
  pub first_touches : (e : ℕ) → At (r.list k) 0 e → Touches r (under e)
  first_touches e a =
      (record { strip = k; index = 0 }, record { strip = fits; index = omega arith }, a, inl refl)

  pub last_touches : (i e : ℕ) → suc i ≡ length (r.list k) → At (r.list k) i e → Touches r (over e)
  last_touches i e q a = (
    record { strip = k; index = suc i },
    record {
      strip = fits;
      index = omega (arith, q);
    },
    a,
    inr q,
  )
