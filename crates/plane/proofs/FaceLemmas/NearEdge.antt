-- Places near a crossing, moved towards the edge's middle and then up or down.
-- Two lists of signs that differ at one element alone.
use Rattle.std.proofs.Common.{◌≡◌, ℕ, zero, suc, ◌<◌, ◌≤◌, List, [], ◌∷◌, length, ℤ, pos, ◌+ℤ◌}
use Rattle.std.proofs.Common.{◌*ℤ◌, ◌-ℤ◌, ◌<ℤ◌, refl, arith, ap, ◌∙◌, ◌⊎◌, inl, inr, subst}
use Rattle.std.proofs.lemmas.Int.{ints}
use Rattle.plane.specs.Lists.{Has}
use Rattle.plane.specs.Forms.Vectors.{Vector, Same, point, mix, Edge, side, sweep, up, rise}
use Rattle.plane.specs.Faces.Halves.{At}
use Rattle.plane.proofs.Algebra.Scaling.{product_of_zero}
use Rattle.plane.proofs.Linear.Vectors.{side-mix, sweep-mix, side-low, side-high, side-up, sweep-up}
use Rattle.plane.proofs.Linear.Clear.{vector_eq}
use Rattle.plane.proofs.Strips.Heights.{Parts}
use Rattle.plane.proofs.Strips.Columns.{by_less}
use Rattle.plane.proofs.Turning.ListPlaces.{at_some, at_has, has_at, parts_under, parts_over}
use Rattle.plane.proofs.FaceLemmas.SmallSteps.{near}
use Rattle.plane.proofs.Algebra.Ring.{at, num, plus, minus, times, vars, ring}

-- two lists of signs that differ at one element alone
pub parts_step : (f g : ℕ → ℤ) (i j e : ℕ) (xs : List ℕ) → i ≤ length xs → Parts f i xs
    → Parts g j xs → Has e xs → pos 0 <ℤ f e → g e <ℤ pos 0
    → ((x : ℕ) → Has x xs → (x ≡ e → ⊥)
    → ((pos 0 <ℤ f x) × (pos 0 <ℤ g x)) ⊎ ((f x <ℤ pos 0) × (g x <ℤ pos 0)))
    → ((a b x : ℕ) → At xs a x → At xs b x → a ≡ b) → At xs j e × (i ≡ suc j)
parts_step f g i j e xs most p q has high low alike one =
    let a = (has_at xs e has).0 in
    let at_a = (has_at xs e has).1 in
    let l : a < i = by_less a i (λ l. l) (λ (l : i ≤ a). let n = parts_over f i a e xs p at_a l in
    absurd (omega (arith, ints, n, high))) in
    let m : j ≤ a = by_less a j (λ (m : a < j). let n = parts_under g j a e xs q at_a m in
    absurd (omega (arith, ints, n, low))) (λ m. m) in
    let not_less : (j < a) → ⊥ = λ h.
    let x = at_some xs j (omega (arith, l, most)) in
    let n = parts_over g j j x.0 xs q x.1 (omega arith) in
    elim (alike x.0 (at_has xs j x.0 x.1)
    (λ (c : x.0 ≡ e). let d = one j a e (subst (λ (y : ℕ). At xs j y) c x.1) at_a in
    omega (arith, d, h))) [
      | inl c ↦ (let d = c.1 in omega (arith, ints, d, n))
      | inr c ↦ (let d = c.0 in let k = parts_under f i j x.0 xs p x.1 (omega (arith, h, l)) in
          omega (arith, ints, d, k))
    ] in
    let not_more : (suc a < i) → ⊥ = λ h.
    let x = at_some xs (suc a) (omega (arith, h, most)) in
    let n = parts_under f i (suc a) x.0 xs p x.1 h in
    elim (alike x.0 (at_has xs (suc a) x.0 x.1)
    (λ (c : x.0 ≡ e). let d = one (suc a) a e (subst (λ (y : ℕ). At xs (suc a) y) c x.1) at_a in
    omega (arith, d))) [
      | inl c ↦ (let d = c.1 in let k = parts_over g j (suc a) x.0 xs q x.1 (omega (arith, m)) in
          omega (arith, ints, d, k))
      | inr c ↦ (let d = c.0 in omega (arith, ints, d, n))
    ] in
    let same : a ≡ j = by_less j a (λ h. absurd (not_less h)) (λ h. omega (arith, h, m)) in
    let next : i ≡ suc j = by_less (suc a) i (λ h. absurd (not_more h))
    (λ h. omega (arith, h, l, same)) in
    (subst (λ (y : ℕ). At xs y e) same at_a, next)

-- ---- the crossing place, and places near it
pub near_first : (n s t : ℤ) (p q : Vector)
    → near n (mix s p t q) p ≡ mix ((n *ℤ s) +ℤ pos 1) p (n *ℤ t) q
near_first n s t p q = vector_eq _ _ (one n s t p.x q.x) (one n s t p.y q.y) (one n s t p.n q.n)
  where
    one : (n s t x y : ℤ)
        → (n *ℤ ((s *ℤ x) +ℤ (t *ℤ y))) +ℤ (pos 1 *ℤ x)
        ≡ (((n *ℤ s) +ℤ pos 1) *ℤ x) +ℤ ((n *ℤ t) *ℤ y)
    one n s t x y =
        ring (plus (times (at 0) (plus (times (at 1) (at 3)) (times (at 2) (at 4))))
        (times (num (pos 1)) (at 3)))
        (plus (times (plus (times (at 0) (at 1)) (num (pos 1))) (at 3))
        (times (times (at 0) (at 2)) (at 4))) (vars (n ∷ s ∷ t ∷ x ∷ y ∷ [])) refl

pub near_second : (n s t : ℤ) (p q : Vector)
    → near n (mix s p t q) q ≡ mix ((n *ℤ t) +ℤ pos 1) q (n *ℤ s) p
near_second n s t p q = vector_eq _ _ (one n s t p.x q.x) (one n s t p.y q.y) (one n s t p.n q.n)
  where
    one : (n s t x y : ℤ)
        → (n *ℤ ((s *ℤ x) +ℤ (t *ℤ y))) +ℤ (pos 1 *ℤ y)
        ≡ (((n *ℤ t) +ℤ pos 1) *ℤ y) +ℤ ((n *ℤ s) *ℤ x)
    one n s t x y =
        ring (plus (times (at 0) (plus (times (at 1) (at 3)) (times (at 2) (at 4))))
        (times (num (pos 1)) (at 4)))
        (plus (times (plus (times (at 0) (at 2)) (num (pos 1))) (at 4))
        (times (times (at 0) (at 1)) (at 3))) (vars (n ∷ s ∷ t ∷ x ∷ y ∷ [])) refl

-- a mean with side 0 is the crossing place
pub one_crossing : (s t a b : ℤ) (p q : Vector) → (s *ℤ a) +ℤ (t *ℤ b) ≡ pos 0
    → Same (mix s p t q) (mix (pos 0 -ℤ b) p a q)
one_crossing s t a b p q h = record { x = one p.x p.n q.x q.n; y = one p.y p.n q.y q.n }
  where
    equal : (u v d : ℤ) → u -ℤ v ≡ d → d ≡ pos 0 → u ≡ v
    equal u v d e f = omega (arith, ints)

    zero_times : (u v : ℤ) → u ≡ pos 0 → u *ℤ v ≡ pos 0
    zero_times u v e = ap (λ (z : ℤ). z *ℤ v) e ∙ omega (arith, ints)

    one : (x n y m : ℤ)
        → ((s *ℤ x) +ℤ (t *ℤ y)) *ℤ (((pos 0 -ℤ b) *ℤ n) +ℤ (a *ℤ m))
        ≡ (((pos 0 -ℤ b) *ℤ x) +ℤ (a *ℤ y)) *ℤ ((s *ℤ n) +ℤ (t *ℤ m))
    one x n y m =
        let B = minus (num (pos 0)) (at 3) in
        let e = ring
        (minus (times (plus (times (at 0) (at 4)) (times (at 1) (at 6)))
        (plus (times B (at 5)) (times (at 2) (at 7))))
        (times (plus (times B (at 4)) (times (at 2) (at 6)))
        (plus (times (at 0) (at 5)) (times (at 1) (at 7)))))
        (times (plus (times (at 0) (at 2)) (times (at 1) (at 3)))
        (minus (times (at 4) (at 7)) (times (at 6) (at 5))))
        (vars (s ∷ t ∷ a ∷ b ∷ x ∷ n ∷ y ∷ m ∷ [])) refl in
        equal _ _ _ e (zero_times ((s *ℤ a) +ℤ (t *ℤ b)) ((x *ℤ m) -ℤ (y *ℤ n)) h)

-- towards the middle of the edge, and t times up
abbrev pub aside : ℤ → Edge → ℤ → Vector
aside w e t = mix (pos 1) (mix (pos 1) (point e.low) (pos 1) (point e.high)) t (up w)

pub aside_side : (w : ℤ) (e : Edge) (t : ℤ) → side e (aside w e t) ≡ t *ℤ rise w e
aside_side w e t =
    let m = mix (pos 1) (point e.low) (pos 1) (point e.high) in
    let a = side-mix e (pos 1) m t (up w) in
    let b = side-mix e (pos 1) (point e.low) (pos 1) (point e.high) in
    let c = side-low e in
    let d = side-high e in
    let f = ap (λ (v : ℤ). t *ℤ v) (side-up w e) in
    omega (arith, ints, a, b, c, d, f)

pub aside_sweep : (w : ℤ) (e : Edge) (t : ℤ)
    → sweep w (aside w e t) ≡ sweep w (point e.low) +ℤ sweep w (point e.high)
aside_sweep w e t =
    let m = mix (pos 1) (point e.low) (pos 1) (point e.high) in
    let a = sweep-mix w (pos 1) m t (up w) in
    let b = sweep-mix w (pos 1) (point e.low) (pos 1) (point e.high) in
    let c = product_of_zero t (sweep w (up w)) (sweep-up w) in
    omega (arith, ints, a, b, c)

pub scaled_near : (c n zn : ℤ)
    → c *ℤ ((n *ℤ zn) +ℤ (pos 1 *ℤ pos 2)) ≡ (n *ℤ (c *ℤ zn)) +ℤ (c *ℤ pos 2)
scaled_near c n zn =
    ring (times (at 0) (plus (times (at 1) (at 2)) (times (num (pos 1)) (num (pos 2)))))
    (plus (times (at 1) (times (at 0) (at 2))) (times (at 0) (num (pos 2))))
    (vars (c ∷ n ∷ zn ∷ [])) refl

pub by_equal : {P : Type 0} (a b : ℕ) → (a ≡ b → P) → ((a ≡ b → ⊥) → P) → P
by_equal zero zero f g = f refl
by_equal zero (suc b) f g = g (λ e. omega (arith, e))
by_equal (suc a) zero f g = g (λ e. omega (arith, e))
by_equal (suc a) (suc b) f g =
    by_equal a b (λ e. f (ap (λ (n : ℕ). suc n) e)) (λ h. g (λ e. h (omega (arith, e))))
