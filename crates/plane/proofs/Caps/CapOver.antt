-- The places of the slab over the circle's lower part are convex, and closed upwards.
use Rattle.std.proofs.Common.{◌≡◌, ℤ, pos, ◌+ℤ◌, ◌*ℤ◌, ◌-ℤ◌, ◌<ℤ◌, ◌≤ℤ◌, ◌⊎◌, inl, inr, [], ◌∷◌}
use Rattle.std.proofs.Common.{refl, arith, ap, ◌∙◌, subst, sym}
use Rattle.std.proofs.lemmas.Int.{ints, by_lt_z}
use Rattle.plane.specs.Forms.Vectors.{Vector, Place, Same, mix}
use Rattle.plane.specs.Tubes.Caps.{Cap, IsCap, shape, InSlab}
use Rattle.plane.proofs.Caps.CapWords.{IsOver}
use Rattle.plane.proofs.Algebra.Laws.{product_positive, product_nonnegative}
use Rattle.plane.proofs.Algebra.Scaling.{times_le, times_lt, cancel_le, cancel_lt}
use Rattle.plane.proofs.Linear.Signs.{mix_place, span_high}
use Rattle.plane.proofs.Algebra.Ring.{Expr, at, num, plus, minus, times, vars, ring}
use Rattle.plane.proofs.Caps.ChordCircle.{SHAPE, inside_mix, chord_inside}
use Rattle.plane.proofs.Linear.Clear.{vector_eq, mix_back}

abbrev pub scaled : ℤ → Vector → Vector
scaled m v = record { x = m *ℤ v.x; y = m *ℤ v.y; n = m *ℤ v.n }

pub shape-scaled : (c : Cap) (m : ℤ) (v : Vector) → shape c (scaled m v) ≡ (m *ℤ m) *ℤ shape c v
unfolding shape
shape-scaled c m v =
    let H : Expr → Expr → Expr → Expr = SHAPE (at 0) (at 1) (at 2) in
    let M = at 3 in
    ring (H (times M (at 4)) (times M (at 5)) (times M (at 6)))
    (times (times M M) (H (at 4) (at 5) (at 6)))
    (vars (c.size ∷ c.chord ∷ c.sag ∷ m ∷ v.x ∷ v.y ∷ v.n ∷ [])) refl

pub square_positive : (m : ℤ) → pos 0 <ℤ m → pos 0 <ℤ (m *ℤ m)
square_positive m h = product_positive m m h h

pub cancel_below : (m z : ℤ) → pos 0 <ℤ m → (m *ℤ z) <ℤ pos 0 → z <ℤ pos 0
cancel_below m z h k = cancel_lt m z (pos 0) h (omega (arith, ints, k))

pub cancel_least : (m z : ℤ) → pos 0 <ℤ m → pos 0 ≤ℤ (m *ℤ z) → pos 0 ≤ℤ z
cancel_least m z h k = cancel_le m (pos 0) z h (omega (arith, ints, k))

pub cancel_most : (m z : ℤ) → pos 0 <ℤ m → (m *ℤ z) ≤ℤ pos 0 → z ≤ℤ pos 0
cancel_most m z h k = cancel_le m z (pos 0) h (omega (arith, ints, k))

pub times_below : (m z : ℤ) → pos 0 <ℤ m → z <ℤ pos 0 → (m *ℤ z) <ℤ pos 0
times_below m z h k = let p = times_lt m z (pos 0) h k in omega (arith, ints, p)

pub times_most : (m z : ℤ) → pos 0 ≤ℤ m → z ≤ℤ pos 0 → (m *ℤ z) ≤ℤ pos 0
times_most m z h k = let p = times_le m z (pos 0) h k in omega (arith, ints, p)

-- ---- the slab is convex
pub slab_low : (s t a b : ℤ) → pos 0 ≤ℤ s → pos 0 ≤ℤ t → pos 0 ≤ℤ a → pos 0 ≤ℤ b
    → pos 0 ≤ℤ ((s *ℤ a) +ℤ (t *ℤ b))
slab_low s t a b hs ht ha hb =
    let u = product_nonnegative s a hs ha in
    let v = product_nonnegative t b ht hb in omega (arith, ints, u, v)

pub slab_mix : (c : Cap) (s : ℤ) (p : Vector) (t : ℤ) (q : Vector) → pos 0 ≤ℤ s → pos 0 ≤ℤ t
    → InSlab c p → InSlab c q → InSlab c (mix s p t q)
slab_mix c s p t q hs ht hp hq = record {
  low = slab_low s t p.x q.x hs ht hp.low hq.low;
  high = span_high c.chord s t p.x p.n q.x q.n hs ht hp.high hq.high;
}

-- ---- over the lower part
-- from p, inside and under the chord's line, to q, over it: a place still under it is a mix of p
-- and of the chord's place
cut_once : (s t py qy p q : ℤ)
    → (pos 0 -ℤ py) *ℤ ((s *ℤ p) +ℤ (t *ℤ q))
    ≡ ((pos 0 -ℤ ((s *ℤ py) +ℤ (t *ℤ qy))) *ℤ p) +ℤ (t *ℤ ((qy *ℤ p) +ℤ ((pos 0 -ℤ py) *ℤ q)))
cut_once s t py qy p q =
    let z = num (pos 0) in
    ring (times (minus z (at 2)) (plus (times (at 0) (at 4)) (times (at 1) (at 5))))
    (plus (times (minus z (plus (times (at 0) (at 2)) (times (at 1) (at 3)))) (at 4))
    (times (at 1) (plus (times (at 3) (at 4)) (times (minus z (at 2)) (at 5)))))
    (vars (s ∷ t ∷ py ∷ qy ∷ p ∷ q ∷ [])) refl

-- the chord's place of the segment from p to q
abbrev pub level : Vector → Vector → Vector
level p q = mix q.y p (pos 0 -ℤ p.y) q

pub level-y : (p q : Vector) → (level p q).y ≡ pos 0
level-y p q =
    ring (plus (times (at 1) (at 0)) (times (minus (num (pos 0)) (at 0)) (at 1))) (num (pos 0))
    (vars (p.y ∷ q.y ∷ [])) refl

over_part : (c : Cap) (s : ℤ) (p : Vector) (t : ℤ) (q : Vector) → IsCap c → Place p → Place q
    → pos 0 ≤ℤ s → pos 0 ≤ℤ t → InSlab c p → InSlab c q
    → shape c p <ℤ pos 0 → p.y <ℤ pos 0 → pos 0 ≤ℤ q.y → (mix s p t q).y <ℤ pos 0
    → shape c (mix s p t q) <ℤ pos 0
over_part c s p t q hc hp hq hs ht lp lq a b d below =
    let m = pos 0 -ℤ p.y in
    let hm : pos 0 <ℤ m = omega (arith, ints, b) in
    let hm0 : pos 0 ≤ℤ m = omega (arith, ints, b) in
    let o = level p q in
    let so : pos 0 <ℤ (q.y +ℤ m) = omega (arith, ints, d, hm) in
    let ho = mix_place q.y p m q hp hq d hm0 so in
    let on = chord_inside c o hc (slab_mix c q.y p m q d hm0 lp lq) (level-y p q) in
    let z = mix s p t q in
    let w = pos 0 -ℤ z.y in
    let hw : pos 0 <ℤ w = omega (arith, ints, below) in
    let inside = inside_mix c w p t o hc hp ho hw ht a on in
    let e : scaled m z ≡ mix w p t o = vector_eq _ _ (cut_once s t p.y q.y p.x q.x)
    (cut_once s t p.y q.y p.y q.y) (cut_once s t p.y q.y p.n q.n) in
    let f : shape c (scaled m z) <ℤ pos 0 = subst (λ (v : Vector). shape c v <ℤ pos 0)
    (sym e) inside in
    cancel_below (m *ℤ m) (shape c z) (square_positive m hm)
    (subst (λ (v : ℤ). v <ℤ pos 0) (shape-scaled c m z) f)

pub over_mix : (c : Cap) (s : ℤ) (p : Vector) (t : ℤ) (q : Vector) → IsCap c → Place p → Place q
    → pos 0 ≤ℤ s → pos 0 ≤ℤ t → pos 0 <ℤ (s +ℤ t)
    → IsOver c p → IsOver c q → IsOver c (mix s p t q)
over_mix c s p t q hc hp hq hs ht some op oq =
    let z = mix s p t q in
    record {
      slab = slab_mix c s p t q hs ht op.slab oq.slab;
      over = by_lt_z z.y (pos 0) (λ (l : z.y <ℤ pos 0). inl (under l)) (λ l. inr l);
    }
  where
    under : (mix s p t q).y <ℤ pos 0 → shape c (mix s p t q) <ℤ pos 0
    under l =
        by_lt_z p.y (pos 0)
        (λ (a : p.y <ℤ pos 0). by_lt_z q.y (pos 0)
        (λ (b : q.y <ℤ pos 0). both (is_in p op.over a) (is_in q oq.over b))
        (λ (b : pos 0 ≤ℤ q.y). over_part c s p t q hc hp hq hs ht op.slab oq.slab
        (is_in p op.over a) a b l))
        (λ (a : pos 0 ≤ℤ p.y). by_lt_z q.y (pos 0)
        (λ (b : q.y <ℤ pos 0). swapped
        (over_part c t q s p hc hq hp ht hs oq.slab op.slab (is_in q oq.over b) b a
        (subst (λ (v : Vector). v.y <ℤ pos 0) (mix_back s t p q) l)))
        (λ (b : pos 0 ≤ℤ q.y). let k = slab_low s t p.y q.y hs ht a b in
        absurd (omega (arith, ints, k, l))))
      where
        is_in : (v : Vector) → (shape c v <ℤ pos 0) ⊎ (pos 0 ≤ℤ v.y) → v.y <ℤ pos 0
            → shape c v <ℤ pos 0
        is_in v (inl h) k = h
        is_in v (inr h) k = absurd (omega (arith, ints, h, k))

        swapped : shape c (mix t q s p) <ℤ pos 0 → shape c (mix s p t q) <ℤ pos 0
        swapped h = subst (λ (v : Vector). shape c v <ℤ pos 0) (mix_back t s q p) h

        both : shape c p <ℤ pos 0 → shape c q <ℤ pos 0 → shape c (mix s p t q) <ℤ pos 0
        both a b = by_lt_z (pos 0) s
            (λ (k : pos 0 <ℤ s). inside_mix c s p t q hc hp hq k ht a (omega (arith, ints, b)))
            (λ (k : s ≤ℤ pos 0). swapped
            (inside_mix c t q s p hc hq hp (omega (arith, ints, k, some)) hs b
            (omega (arith, ints, a))))

-- ---- one place, two vectors
same_scaled : (z m : Vector) → Same z m → scaled m.n z ≡ scaled z.n m
same_scaled z m h =
    vector_eq _ _ (let k = h.x in omega (arith, ints, k, comm m.n z.x, comm z.n m.x))
    (let k = h.y in omega (arith, ints, k, comm m.n z.y, comm z.n m.y)) (comm m.n z.n)
  where
    comm : (a b : ℤ) → a *ℤ b ≡ b *ℤ a
    comm a b = ring (times (at 0) (at 1)) (times (at 1) (at 0)) (vars (a ∷ b ∷ [])) refl

pub shape_same : (c : Cap) (z m : Vector) → Same z m
    → (m.n *ℤ m.n) *ℤ shape c z ≡ (z.n *ℤ z.n) *ℤ shape c m
shape_same c z m h = sym (shape-scaled c m.n z) ∙ ap (λ (v : Vector). shape c v) (same_scaled z m h)
    ∙ shape-scaled c z.n m

pub over_scaled : (c : Cap) (m : ℤ) (v : Vector) → pos 0 <ℤ m → IsOver c (scaled m v) → IsOver c v
over_scaled c m v hm o = record {
  slab = record {
    low = cancel_least m v.x hm o.slab.low;
    high = cancel_le m v.x (c.chord *ℤ v.n) hm (let k = o.slab.high in
        omega (arith, ints, k, swap c.chord m v.n));
  };
  over = back o.over;
}
  where
    swap : (a b d : ℤ) → a *ℤ (b *ℤ d) ≡ b *ℤ (a *ℤ d)
    swap a b d =
        ring (times (at 0) (times (at 1) (at 2))) (times (at 1) (times (at 0) (at 2)))
        (vars (a ∷ b ∷ d ∷ [])) refl

    back : (shape c (scaled m v) <ℤ pos 0) ⊎ (pos 0 ≤ℤ (m *ℤ v.y))
        → (shape c v <ℤ pos 0) ⊎ (pos 0 ≤ℤ v.y)
    back (inl h) =
        inl (cancel_below (m *ℤ m) (shape c v) (square_positive m hm)
        (subst (λ (k : ℤ). k <ℤ pos 0) (shape-scaled c m v) h))
    back (inr h) = inr (cancel_least m v.y hm h)

over_up : (c : Cap) (m : ℤ) (v : Vector) → pos 0 <ℤ m → IsOver c v → IsOver c (scaled m v)
over_up c m v hm o = record {
  slab = record {
    low = product_nonnegative m v.x (omega (arith, ints, hm)) o.slab.low;
    high = (let k = times_le m v.x (c.chord *ℤ v.n) (omega (arith, ints, hm)) o.slab.high in
        omega (arith, ints, k, swap c.chord m v.n));
  };
  over = on o.over;
}
  where
    swap : (a b d : ℤ) → a *ℤ (b *ℤ d) ≡ b *ℤ (a *ℤ d)
    swap a b d =
        ring (times (at 0) (times (at 1) (at 2))) (times (at 1) (times (at 0) (at 2)))
        (vars (a ∷ b ∷ d ∷ [])) refl

    on : (shape c v <ℤ pos 0) ⊎ (pos 0 ≤ℤ v.y)
        → (shape c (scaled m v) <ℤ pos 0) ⊎ (pos 0 ≤ℤ (m *ℤ v.y))
    on (inl h) =
        inl (subst (λ (k : ℤ). k <ℤ pos 0) (sym (shape-scaled c m v))
        (times_below (m *ℤ m) (shape c v) (square_positive m hm) h))
    on (inr h) = inr (product_nonnegative m v.y (omega (arith, ints, hm)) h)

pub over_same : (c : Cap) (z m : Vector) → Place z → Place m → Same z m → IsOver c m → IsOver c z
over_same c z m hz hm h o =
    over_scaled c m.n z hm
    (subst (λ (v : Vector). IsOver c v) (sym (same_scaled z m h)) (over_up c z.n m hz o))
