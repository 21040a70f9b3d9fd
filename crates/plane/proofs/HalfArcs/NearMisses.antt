-- Near a place a segment misses the edges that do not hold the place.
use Rattle.std.proofs.Common.{◌≡◌, ℕ, zero, suc, ◌<◌, ℤ, pos, ◌+ℤ◌, ◌*ℤ◌, ◌-ℤ◌, ◌<ℤ◌, ◌≤ℤ◌, [], ◌∷◌}
use Rattle.std.proofs.Common.{inl, inr, refl, arith, sym, ◌∙◌, subst}
use Rattle.std.proofs.lemmas.Int.{ints, by_lt_z}
use Rattle.plane.specs.Forms.Vectors.{Vector, Place, mix, point, Edge, side, sweep, On, HitsEdge}
use Rattle.plane.proofs.Algebra.Laws.{square_nonnegative, weight_at_most}
use Rattle.plane.proofs.Algebra.Scaling.{times_le}
use Rattle.plane.proofs.Linear.Vectors.{side-mix, sweep-mix}
use Rattle.plane.proofs.Linear.Signs.{mix_place}
use Rattle.plane.proofs.Linear.Clear.{mix_clear}
use Rattle.plane.proofs.Strips.OneStrip.{by_last}
use Rattle.plane.proofs.Windings.CommonPlaces.{decide_number}
use Rattle.plane.proofs.FaceLemmas.SmallSteps.{near}
use Rattle.plane.proofs.Algebra.Ring.{at, num, plus, minus, times, vars, ring}

minus_most : (b : ℤ) → (pos 0 -ℤ b) ≤ℤ (b *ℤ b)
minus_most b =
    let s = square_nonnegative b in
    by_lt_z b (pos 0)
    (λ (l : b <ℤ pos 0).
    let a = times_le (pos 0 -ℤ b) (pos 1) (pos 0 -ℤ b) (omega (arith, ints, l))
    (omega (arith, ints, l)) in
    let e = ring (times (minus (num (pos 0)) (at 0)) (minus (num (pos 0)) (at 0)))
    (times (at 0) (at 0)) (vars (b ∷ [])) refl in
    omega (arith, ints, a, e))
    (λ (l : pos 0 ≤ℤ b). omega (arith, ints, s, l))

linear_wins : (a b c : ℤ) → pos 0 <ℤ a
    → (n : ℤ) × (pos 0 ≤ℤ n) × ((m : ℤ) → n ≤ℤ m
    → (pos 0 <ℤ ((m *ℤ a) +ℤ b)) × (pos 0 <ℤ ((m *ℤ a) +ℤ c)))
linear_wins a b c A =
    let b2 = square_nonnegative b in
    let c2 = square_nonnegative c in
    let x = minus_most b in
    let y = minus_most c in (
      ((b *ℤ b) +ℤ (c *ℤ c)) +ℤ pos 1,
      omega (arith, ints, b2, c2),
      λ m h.
          let k = times_le m (pos 1) a (omega (arith, ints, h, b2, c2)) (omega (arith, ints, A)) in
          (omega (arith, ints, k, h, x, c2), omega (arith, ints, k, h, y, b2)),
    )

abbrev IsLinear : (Vector → ℤ) → Type 0
IsLinear f = (s : ℤ) (p : Vector) (t : ℤ) (q : Vector) → f (mix s p t q) ≡ (s *ℤ f p) +ℤ (t *ℤ f q)

-- what is above 0 at z is so along the segment near z
linear_near : (f : Vector → ℤ) → IsLinear f → (z p q : Vector) → pos 0 <ℤ f z
    → (n : ℤ) × (pos 0 ≤ℤ n) × ((m : ℤ) → n ≤ℤ m → (s t : ℤ) → pos 0 ≤ℤ s → pos 0 ≤ℤ t
    → pos 0 <ℤ (s +ℤ t) → pos 0 <ℤ f (mix s (near m z p) t (near m z q)))
linear_near f lin z p q h =
    let w = linear_wins (f z) (f p) (f q) h in (
      w.0,
      w.1,
      λ m k s t hs ht some.
          let a = w.2 m k in
          let ep = lin m z (pos 1) p in
          let eq = lin m z (pos 1) q in
          let hp = a.0 in
          let hq = a.1 in
          let x = weight_at_most s (f (near m z p)) hs (omega (arith, ints, ep, hp)) in
          let y = weight_at_most t (f (near m z q)) ht (omega (arith, ints, eq, hq)) in
          let e = lin s (near m z p) t (near m z q) in
          omega (arith, ints, x, y, e, some),
    )

-- the forms: over the edge's line, under it, before its low end, after its high end
under_line : (e : Edge) → IsLinear (λ v. pos 0 -ℤ side e v)
under_line e s p t q =
    let m = side-mix e s p t q in
    let i = ring
    (plus (times (at 0) (minus (num (pos 0)) (at 1)))
    (times (at 2) (minus (num (pos 0)) (at 3))))
    (minus (num (pos 0)) (plus (times (at 0) (at 1)) (times (at 2) (at 3))))
    (vars (s ∷ side e p ∷ t ∷ side e q ∷ [])) refl in
    omega (arith, ints, m, i)

before_level : (w c : ℤ) → IsLinear (λ v. (c *ℤ v.n) -ℤ sweep w v)
before_level w c s p t q =
    let m = sweep-mix w s p t q in
    let i = ring
    (minus (times (at 0) (plus (times (at 1) (at 2)) (times (at 4) (at 5))))
    (plus (times (at 1) (at 3)) (times (at 4) (at 6))))
    (plus (times (at 1) (minus (times (at 0) (at 2)) (at 3)))
    (times (at 4) (minus (times (at 0) (at 5)) (at 6))))
    (vars (c ∷ s ∷ p.n ∷ sweep w p ∷ t ∷ q.n ∷ sweep w q ∷ [])) refl in
    omega (arith, ints, m, i)

after_level : (w c : ℤ) → IsLinear (λ v. sweep w v -ℤ (c *ℤ v.n))
after_level w c s p t q =
    let m = sweep-mix w s p t q in
    let i = ring
    (minus (plus (times (at 1) (at 3)) (times (at 4) (at 6)))
    (times (at 0) (plus (times (at 1) (at 2)) (times (at 4) (at 5)))))
    (plus (times (at 1) (minus (at 3) (times (at 0) (at 2))))
    (times (at 4) (minus (at 6) (times (at 0) (at 5)))))
    (vars (c ∷ s ∷ p.n ∷ sweep w p ∷ t ∷ q.n ∷ sweep w q ∷ [])) refl in
    omega (arith, ints, m, i)

pub near_is_place : (m : ℤ) (z p : Vector) → pos 0 ≤ℤ m → Place z → Place p → Place (near m z p)
near_is_place m z p h Z P =
    mix_place m z (pos 1) p Z P h (omega (arith, ints)) (omega (arith, ints, h))

abbrev MissesNear : ℤ → Edge → Vector → Vector → Vector → Type 0
MissesNear w e z p q =
    (n : ℤ) × (pos 0 ≤ℤ n) × ((m : ℤ) → n ≤ℤ m → HitsEdge w (near m z p) (near m z q) e → ⊥)

by_form : (w : ℤ) (e : Edge) (z p q : Vector) (f : Vector → ℤ) → Place z → Place p → Place q
    → IsLinear f → pos 0 <ℤ f z → ((v : Vector) → On w e v → f v ≤ℤ pos 0) → MissesNear w e z p q
by_form w e z p q f Z P Q lin h none =
    let k = linear_near f lin z p q h in (
      k.0,
      k.1,
      λ m l.
          let least : pos 0 ≤ℤ m = (let a = k.1 in omega (arith, ints, l, a)) in
          mix_clear w e (near m z p) (near m z q) (near_is_place m z p least Z P)
          (near_is_place m z q least Z Q)
          (λ s t hs ht some on. let a = k.2 m l s t hs ht some in
          let b = none (mix s (near m z p) t (near m z q)) on in omega (arith, ints, a, b)),
    )

near_misses : (w : ℤ) (e : Edge) (z p q : Vector) → Place z → Place p → Place q → (On w e z → ⊥)
    → MissesNear w e z p q
near_misses w e z p q Z P Q off = by_lt_z (pos 0) (side e z)
    (λ (a : pos 0 <ℤ side e z). by_form w e z p q (λ v. side e v) Z P Q
    (λ s p t q. side-mix e s p t q) a (λ v on. let x = on.line in omega (arith, ints, x)))
    (λ (a : side e z ≤ℤ pos 0). by_lt_z (side e z) (pos 0)
    (λ (b : side e z <ℤ pos 0). by_form w e z p q (λ v. pos 0 -ℤ side e v) Z P Q (under_line e)
    (omega (arith, ints, b)) (λ v on. let x = on.line in omega (arith, ints, x)))
    (λ (b : pos 0 ≤ℤ side e z). by_lt_z (sweep w z) (sweep w (point e.low) *ℤ z.n)
    (λ (c : sweep w z <ℤ (sweep w (point e.low) *ℤ z.n)). by_form w e z p q
    (λ v. (sweep w (point e.low) *ℤ v.n) -ℤ sweep w v) Z P Q
    (before_level w (sweep w (point e.low))) (omega (arith, ints, c)) (λ v on. let x = on.low in
    omega (arith, ints, x)))
    (λ (c : (sweep w (point e.low) *ℤ z.n) ≤ℤ sweep w z). by_lt_z (sweep w (point e.high) *ℤ z.n)
    (sweep w z)
    (λ (g : (sweep w (point e.high) *ℤ z.n) <ℤ sweep w z). by_form w e z p q
    (λ v. sweep w v -ℤ (sweep w (point e.high) *ℤ v.n)) Z P Q
    (after_level w (sweep w (point e.high))) (omega (arith, ints, g))
    (λ v on. let x = on.high in omega (arith, ints, x)))
    (λ (g : sweep w z ≤ℤ (sweep w (point e.high) *ℤ z.n)). absurd
    (off (record { line = omega (arith, ints, a, b); low = c; high = g }))))))

-- all edges but e
pub others_missed : (w : ℤ) (E : ℕ → Edge) (e k : ℕ) (z p q : Vector) → Place z → Place p → Place q
    → ((f : ℕ) → f < k → (f ≡ e → ⊥) → On w (E f) z → ⊥)
    → (n : ℤ) × (pos 0 ≤ℤ n) × ((m : ℤ) → n ≤ℤ m → (f : ℕ) → f < k → (f ≡ e → ⊥)
    → HitsEdge w (near m z p) (near m z q) (E f) → ⊥)
others_missed w E e zero z p q Z P Q off =
    (pos 0, omega (arith, ints), λ m l f h n. absurd (omega (arith, h)))
others_missed w E e (suc k) z p q Z P Q off =
    let i = others_missed w E e k z p q Z P Q (λ f h n. off f (omega (arith, h)) n) in
    let i1 = i.1 in
    elim (decide_number k e) [
      | inl s ↦ (
        i.0,
        i.1,
        λ m l f h n. by_last f k h (λ (x : f < k). i.2 m l f x n)
            (λ (x : f ≡ k). absurd (n (x ∙ s))),
      )
      | inr s ↦
          let j = near_misses w (E k) z p q Z P Q (off k (omega arith) s) in
          let j1 = j.1 in (
            i.0 +ℤ j.0,
            omega (arith, ints, i1, j1),
            λ m l f h n. by_last f k h (λ (x : f < k). i.2 m (omega (arith, ints, l, j1)) f x n)
                (λ (x : f ≡ k). subst (λ (y : ℕ). HitsEdge w (near m z p) (near m z q) (E y) → ⊥)
                (sym x) (j.2 m (omega (arith, ints, l, i1)))),
          )
    ]
