-- From inside the circle to outside: past a place that is outside, the segment does not hit the
-- half arc.
use Rattle.std.proofs.Common.{◌≡◌, ℤ, pos, ◌+ℤ◌, ◌*ℤ◌, ◌<ℤ◌, ◌≤ℤ◌, [], ◌∷◌, refl, arith, ap, sym}
use Rattle.std.proofs.Common.{◌∙◌, subst}
use Rattle.std.proofs.lemmas.Int.{ints, by_lt_z}
use Rattle.plane.specs.Forms.Vectors.{Vector, Place, mix}
use Rattle.plane.specs.Forms.Arcs.{HalfArc, power, seen}
use Rattle.plane.proofs.HalfArcs.HitWords.{HitsArc}
use Rattle.plane.specs.Tubes.Caps.{Cap, IsCap, cap, shape}
use Rattle.plane.specs.CurveRuns.Extended.{IsOnWay}
use Rattle.plane.proofs.Algebra.Laws.{product_nonnegative}
use Rattle.plane.proofs.Algebra.Ring.{at, plus, times, vars, ring}
use Rattle.plane.proofs.Linear.Signs.{mix_place}
use Rattle.plane.proofs.Linear.Clear.{vector_eq}
use Rattle.plane.proofs.Windings.Ways.{way_place}
use Rattle.plane.proofs.Caps.CapOver.{scaled, shape-scaled, cancel_most, square_positive}
use Rattle.plane.proofs.Caps.CapFences.{most_mix}
use Rattle.plane.proofs.HalfArcs.Misses.{most_same}
use Rattle.plane.proofs.Caps.Seen.{seen-mix, seen_same, shape_most, power_most}

-- y is a mix of p and of each mix of y and q
mixed_back : (s t a b : ℤ) (p q : Vector)
    → scaled ((a *ℤ t) +ℤ b) (mix s p t q) ≡ mix (b *ℤ s) p t (mix a (mix s p t q) b q)
mixed_back s t a b p q = vector_eq _ _ (one p.x q.x) (one p.y q.y) (one p.n q.n)
  where
    one : (x y : ℤ)
        → ((a *ℤ t) +ℤ b) *ℤ ((s *ℤ x) +ℤ (t *ℤ y))
        ≡ ((b *ℤ s) *ℤ x) +ℤ (t *ℤ ((a *ℤ ((s *ℤ x) +ℤ (t *ℤ y))) +ℤ (b *ℤ y)))
    one x y =
        let Y = plus (times (at 0) (at 4)) (times (at 1) (at 5)) in
        ring (times (plus (times (at 2) (at 1)) (at 3)) Y)
        (plus (times (times (at 3) (at 0)) (at 4))
        (times (at 1) (plus (times (at 2) Y) (times (at 3) (at 5)))))
        (vars (s ∷ t ∷ a ∷ b ∷ x ∷ y ∷ [])) refl

-- with a place not outside past it, y is not outside either
not_outside : (c : Cap) (p q : Vector) (s t a b : ℤ) → IsCap c → Place p → Place q → pos 0 ≤ℤ s
    → pos 0 ≤ℤ t → pos 0 <ℤ (s +ℤ t) → pos 0 ≤ℤ a → pos 0 ≤ℤ b → pos 0 <ℤ (a +ℤ b)
    → shape c p ≤ℤ pos 0 → shape c (mix a (mix s p t q) b q) ≤ℤ pos 0
    → shape c (mix s p t q) ≤ℤ pos 0
not_outside c p q s t a b hc hp hq hs ht st ha hb ab low past = by_lt_z (pos 0) b far near
  where
    far : pos 0 <ℤ b → shape c (mix s p t q) ≤ℤ pos 0
    far k =
        let n = product_nonnegative a t ha ht in
        let hk : pos 0 <ℤ ((a *ℤ t) +ℤ b) = omega (arith, ints, n, k) in
        let m = most_mix c (b *ℤ s) p t (mix a (mix s p t q) b q) hc hp
        (mix_place a (mix s p t q) b q (mix_place s p t q hp hq hs ht st) hq ha hb ab)
        (product_nonnegative b s hb hs) ht low past in
        let e = subst (λ (z : Vector). shape c z ≤ℤ pos 0) (sym (mixed_back s t a b p q)) m in
        cancel_most (((a *ℤ t) +ℤ b) *ℤ ((a *ℤ t) +ℤ b)) (shape c (mix s p t q))
        (square_positive ((a *ℤ t) +ℤ b) hk)
        (subst (λ (z : ℤ). z ≤ℤ pos 0) (shape-scaled c ((a *ℤ t) +ℤ b) (mix s p t q)) e)

    alone : (v : Vector) → b ≡ pos 0 → mix a v b q ≡ scaled a v
    alone v e = vector_eq _ _ (one v.x q.x) (one v.y q.y) (one v.n q.n)
      where
        one : (x y : ℤ) → (a *ℤ x) +ℤ (b *ℤ y) ≡ a *ℤ x
        one x y =
            let f : b *ℤ y ≡ pos 0 = ap (λ (z : ℤ). z *ℤ y) e ∙ omega (arith, ints) in
            omega (arith, ints, f)

    near : b ≤ℤ pos 0 → shape c (mix s p t q) ≤ℤ pos 0
    near k =
        let e = subst (λ (z : Vector). shape c z ≤ℤ pos 0)
        (alone (mix s p t q) (omega (arith, ints, k, hb))) past in
        cancel_most (a *ℤ a) (shape c (mix s p t q))
        (square_positive a (omega (arith, ints, k, ab)))
        (subst (λ (z : ℤ). z ≤ℤ pos 0) (shape-scaled c a (mix s p t q)) e)

pub after_misses : (h : HalfArc) (p q y : Vector) → IsCap (cap h) → Place p → Place q
    → IsOnWay p q y → power h p <ℤ pos 0 → pos 0 <ℤ power h y → HitsArc h y q → ⊥
after_misses h p q y hc hp hq w inside outside k =
    let Y = way_place p q y hp hq w in
    let b = k.u_between in
    let m = mix b.s y b.t q in
    let hm = mix_place b.s y b.t q Y hq b.s_least b.t_least b.some in
    let low = most_same (cap h) (seen h k.u) (seen h m) k.u_place hm (seen_same h k.u m b.is)
    (shape_most h k.u hc k.u_in) in
    let e : seen h y ≡ mix w.s (seen h p) w.t (seen h q) = ap (seen h) w.is
    ∙ seen-mix h w.s p w.t q in
    let f : seen h m ≡ mix b.s (mix w.s (seen h p) w.t (seen h q)) b.t
    (seen h q) = seen-mix h b.s y b.t q ∙ ap (λ (v : Vector). mix b.s v b.t (seen h q)) e in
    let n = not_outside (cap h) (seen h p)
    (seen h q) w.s w.t b.s b.t hc hp hq w.s_least w.t_least w.some b.s_least b.t_least b.some
    (shape_most h p hc (omega (arith, ints, inside)))
    (subst (λ (v : Vector). shape (cap h) v ≤ℤ pos 0) f low) in
    let o = power_most h y hc (subst (λ (v : Vector). shape (cap h) v ≤ℤ pos 0) (sym e) n) in
    omega (arith, ints, o, outside)
