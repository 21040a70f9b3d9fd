-- Segments that hit no edge: their parts, and the sides that they keep.
use Rattle.std.proofs.Common.{◌≡◌, ℤ, pos, ◌+ℤ◌, ◌*ℤ◌, ◌<ℤ◌, ◌≤ℤ◌, [], ◌∷◌, refl, arith, sym, ◌∙◌}
use Rattle.std.proofs.Common.{◌⊎◌, subst}
use Rattle.std.proofs.lemmas.Int.{ints}
use Rattle.plane.specs.Forms.Vectors.{Vector, Place, Same, mix, point, Edge, side, sweep, On}
use Rattle.plane.specs.Forms.Vectors.{HitsEdge}
use Rattle.plane.proofs.Algebra.Laws.{product_nonnegative, weight_at_most, product-sum}
use Rattle.plane.proofs.Algebra.Scaling.{times_le, cancel_le, cancel_zero, product_of_zero}
use Rattle.plane.proofs.Linear.Signs.{mix_place}
use Rattle.plane.proofs.Linear.OnePlace.{side_same, sweep_same}
use Rattle.plane.proofs.Algebra.Ring.{at, plus, times, vars, ring}

abbrev pub IsClear : ℤ → Vector → Vector → Edge → Type 0
IsClear w p q e = HitsEdge w p q e → ⊥

pub vector_eq : (u v : Vector) → u.x ≡ v.x → u.y ≡ v.y → u.n ≡ v.n → u ≡ v
vector_eq u v a b c = λ i. record { x = a i; y = b i; n = c i }

-- ---- one place, two vectors
pub on_same : (w : ℤ) (e : Edge) (z m : Vector) → Same z m → Place z → Place m → On w e z → On w e m
on_same w e z m h Z M on =
    let a = side_same e z m h in
    let b = sweep_same w z m h in
    let low = sweep w (point e.low) in
    let high = sweep w (point e.high) in
    let f = times_le m.n (low *ℤ z.n) (sweep w z) (omega (arith, ints)) on.low in
    let t = times_le m.n (sweep w z) (high *ℤ z.n) (omega (arith, ints)) on.high in
    record {
      line = cancel_zero z.n (side e m) Z (sym a ∙ product_of_zero m.n (side e z) on.line);
      low = cancel_le z.n (low *ℤ m.n) (sweep w m) Z
          (omega (arith, ints, f, b, regroup m.n low z.n));
      high = cancel_le z.n (sweep w m) (high *ℤ m.n) Z
          (omega (arith, ints, t, b, regroup m.n high z.n));
    }
  where
    regroup : (a b c : ℤ) → a *ℤ (b *ℤ c) ≡ c *ℤ (b *ℤ a)
    regroup a b c =
        ring (times (at 0) (times (at 1) (at 2))) (times (at 2) (times (at 1) (at 0)))
        (vars (a ∷ b ∷ c ∷ [])) refl

-- ---- what a clear segment says of its mixes, and back
pub clear_mix : (w : ℤ) (e : Edge) (p q : Vector) → Place p → Place q → IsClear w p q e
    → (s t : ℤ) → pos 0 ≤ℤ s → pos 0 ≤ℤ t → pos 0 <ℤ (s +ℤ t) → On w e (mix s p t q) → ⊥
clear_mix w e p q P Q h s t s_least t_least some on =
    h record {
      z = mix s p t q;
      place = mix_place s p t q P Q s_least t_least some;
      between = record {
        s = s;
        t = t;
        s_least = s_least;
        t_least = t_least;
        some = some;
        is = record { x = refl; y = refl };
      };
      on = on;
    }

pub mix_clear : (w : ℤ) (e : Edge) (p q : Vector) → Place p → Place q
    → ((s t : ℤ) → pos 0 ≤ℤ s → pos 0 ≤ℤ t → pos 0 <ℤ (s +ℤ t) → On w e (mix s p t q) → ⊥)
    → IsClear w p q e
mix_clear w e p q P Q h hit =
    let b = hit.between in
    h b.s b.t b.s_least b.t_least b.some
    (on_same w e hit.z (mix b.s p b.t q) b.is hit.place
    (mix_place b.s p b.t q P Q b.s_least b.t_least b.some) hit.on)

pub mix_start : (a b s t : ℤ) (p q : Vector)
    → mix a p b (mix s p t q) ≡ mix (a +ℤ (b *ℤ s)) p (b *ℤ t) q
mix_start a b s t p q =
    vector_eq _ _ (one a b s t p.x q.x) (one a b s t p.y q.y) (one a b s t p.n q.n)
  where
    one : (a b s t x y : ℤ)
        → (a *ℤ x) +ℤ (b *ℤ ((s *ℤ x) +ℤ (t *ℤ y))) ≡ ((a +ℤ (b *ℤ s)) *ℤ x) +ℤ ((b *ℤ t) *ℤ y)
    one a b s t x y =
        ring (plus (times (at 0) (at 4))
        (times (at 1) (plus (times (at 2) (at 4)) (times (at 3) (at 5)))))
        (plus (times (plus (at 0) (times (at 1) (at 2))) (at 4))
        (times (times (at 1) (at 3)) (at 5))) (vars (a ∷ b ∷ s ∷ t ∷ x ∷ y ∷ [])) refl

pub mix_back : (s t : ℤ) (p q : Vector) → mix s p t q ≡ mix t q s p
mix_back s t p q = vector_eq _ _ (omega (arith, ints)) (omega (arith, ints)) (omega (arith, ints))

pub clear_back : (w : ℤ) (e : Edge) (p q : Vector) → Place p → Place q → IsClear w p q e
    → IsClear w q p e
clear_back w e p q P Q h =
    mix_clear w e q p Q P
    (λ s t a b c on. clear_mix w e p q P Q h t s b a (omega (arith, ints))
    (subst (λ (z : Vector). On w e z) (mix_back s t q p) on))

-- the part from p to a place of the segment
pub clear_start : (w : ℤ) (e : Edge) (p q : Vector) → Place p → Place q → (s t : ℤ) → pos 0 ≤ℤ s
    → pos 0 ≤ℤ t → pos 0 <ℤ (s +ℤ t)
    → IsClear w p q e → IsClear w p (mix s p t q) e
clear_start w e p q P Q s t hs ht some h =
    mix_clear w e p (mix s p t q) P (mix_place s p t q P Q hs ht some)
    (λ (a b : ℤ) (ha : pos 0 ≤ℤ a) (hb : pos 0 ≤ℤ b) (c : pos 0 <ℤ (a +ℤ b)) on.
    let bs = product_nonnegative b s hb hs in
    let bt = product_nonnegative b t hb ht in
    let w1 = weight_at_most b (s +ℤ t) hb some in
    let d = product-sum b s t in
    clear_mix w e p q P Q h (a +ℤ (b *ℤ s)) (b *ℤ t) (omega (arith, ints, bs)) bt
    (omega (arith, ints, w1, d)) (subst (λ (z : Vector). On w e z) (mix_start a b s t p q) on))

-- the part from a place of the segment to q
pub clear_end : (w : ℤ) (e : Edge) (p q : Vector) → Place p → Place q → (s t : ℤ) → pos 0 ≤ℤ s
    → pos 0 ≤ℤ t → pos 0 <ℤ (s +ℤ t)
    → IsClear w p q e → IsClear w (mix s p t q) q e
clear_end w e p q P Q s t hs ht some h =
    let o = mix s p t q in
    let O = mix_place s p t q P Q hs ht some in
    let k = clear_start w e q p Q P t s ht hs (omega (arith, ints)) (clear_back w e p q P Q h) in
    let m : IsClear w q o e = subst (λ (z : Vector). IsClear w q z e) (mix_back t s q p) k in
    clear_back w e q o Q O m

-- ---- sides along a clear segment
abbrev pub Agrees : Edge → Vector → Vector → Type 0
Agrees e p q =
    ((pos 0 <ℤ side e p) × (pos 0 <ℤ side e q)) ⊎ ((side e p <ℤ pos 0) × (side e q <ℤ pos 0))
