-- What stands over a place that is over the circle's lower part is over it too.
use Rattle.std.proofs.Common.{◌≡◌, ℤ, pos, ◌+ℤ◌, ◌*ℤ◌, ◌-ℤ◌, ◌<ℤ◌, ◌≤ℤ◌, ◌⊎◌, inl, inr, [], ◌∷◌}
use Rattle.std.proofs.Common.{refl, arith, ap, subst}
use Rattle.std.proofs.lemmas.Int.{ints, by_lt_z}
use Rattle.plane.specs.declared.kinds.Point.{Point}
use Rattle.plane.specs.Forms.Vectors.{Vector, Place, point, mix, side}
use Rattle.plane.specs.Tubes.Caps.{Cap, IsCap, shape, InSlab}
use Rattle.plane.proofs.Caps.CapWords.{IsOver}
use Rattle.plane.specs.Tubes.CapStrips.{line, InColumn}
use Rattle.plane.proofs.Algebra.Laws.{product_positive}
use Rattle.plane.proofs.Algebra.Ring.{at, num, plus, minus, times, vars, ring}
use Rattle.plane.proofs.Caps.ChordCircle.{inside_mix, chord_inside}
use Rattle.plane.proofs.Caps.CapOver.{scaled, shape-scaled, square_positive, cancel_below}
use Rattle.plane.proofs.Caps.CapOver.{times_below, over_mix}
use Rattle.plane.proofs.Caps.CapFences.{stand, stand-x, stand-y, stands}
use Rattle.plane.proofs.Linear.Clear.{vector_eq}

-- u over w on one upright line, and under the chord's line: it is between w and the chord's place
raised_inside : (c : Cap) (w z : Vector) → IsCap c → Place w → Place z → InSlab c z
    → w.x *ℤ z.n ≡ z.x *ℤ w.n → (w.y *ℤ z.n) <ℤ (z.y *ℤ w.n) → z.y <ℤ pos 0 → IsOver c w
    → shape c z <ℤ pos 0
raised_inside c w z hc hw hz slab e over low ow =
    let a = pos 0 -ℤ (z.y *ℤ z.n) in
    let b = (z.y *ℤ w.n) -ℤ (w.y *ℤ z.n) in
    let k = pos 0 -ℤ (w.y *ℤ z.n) in
    let zn = times_below z.n z.y hz low in
    let zw = times_below w.n z.y hw low in
    let c1 = comm z.y z.n in
    let c2 = comm z.y w.n in
    let ha : pos 0 <ℤ a = omega (arith, ints, zn, c1) in
    let hb : pos 0 ≤ℤ b = omega (arith, ints, over) in
    let hk : pos 0 <ℤ k = omega (arith, ints, over, zw, c2) in
    let h : Vector = record { x = z.x; y = pos 0; n = z.n } in
    let on = chord_inside c h hc record { low = slab.low; high = slab.high } refl in
    let w_in = is_in ow.over hk in
    let inside = inside_mix c a w b h hc hw hz ha hb w_in on in
    let same : mix a w b h ≡ scaled k z = vector_eq _ _ (mix_x w.x w.y w.n z.x z.y z.n e)
    (mix_y w.y w.n z.y z.n) (mix_n w.y w.n z.y z.n) in
    let f : shape c (scaled k z) <ℤ pos 0 = subst
    (λ (v : Vector). shape c v <ℤ pos 0) same inside in
    cancel_below (k *ℤ k) (shape c z) (square_positive k hk)
    (subst (λ (v : ℤ). v <ℤ pos 0) (shape-scaled c k z) f)
  where
    comm : (a b : ℤ) → a *ℤ b ≡ b *ℤ a
    comm a b = ring (times (at 0) (at 1)) (times (at 1) (at 0)) (vars (a ∷ b ∷ [])) refl

    is_in : (shape c w <ℤ pos 0) ⊎ (pos 0 ≤ℤ w.y) → pos 0 <ℤ (pos 0 -ℤ (w.y *ℤ z.n))
        → shape c w <ℤ pos 0
    is_in (inl l) k = l
    is_in (inr l) k = by_lt_z w.y (pos 0)
        (λ (m : w.y <ℤ pos 0). absurd (omega (arith, ints, l, m)))
        (λ (m : pos 0 ≤ℤ w.y). absurd (up w.y z.n m hz k))
      where
        up : (y n : ℤ) → pos 0 ≤ℤ y → pos 0 <ℤ n → pos 0 <ℤ (pos 0 -ℤ (y *ℤ n)) → ⊥
        up y n h k l = by_lt_z (pos 0) y
            (λ (m : pos 0 <ℤ y). let p = product_positive y n m k in omega (arith, ints, p, l))
            (λ (m : y ≤ℤ pos 0). let z : y ≡ pos 0 = omega (arith, ints, h, m) in
            let p = ap (λ (v : ℤ). v *ℤ n) z in omega (arith, ints, p, l))

    mix_x : (x y n u v m : ℤ) → x *ℤ m ≡ u *ℤ n
        → ((pos 0 -ℤ (v *ℤ m)) *ℤ x) +ℤ (((v *ℤ n) -ℤ (y *ℤ m)) *ℤ u) ≡ (pos 0 -ℤ (y *ℤ m)) *ℤ u
    mix_x x y n u v m e =
        let X = at 0 in
        let Y = at 1 in let N = at 2 in let U = at 3 in let V = at 4 in let M = at 5 in
        let zero = num (pos 0) in
        let i = ring
        (minus (plus (times (minus zero (times V M)) X)
        (times (minus (times V N) (times Y M)) U)) (times (minus zero (times Y M)) U))
        (minus (times V (times U N)) (times V (times X M)))
        (vars (x ∷ y ∷ n ∷ u ∷ v ∷ m ∷ [])) refl in
        let f = ap (λ (w : ℤ). v *ℤ w) e in
        omega (arith, ints, i, f)

    mix_y : (y n v m : ℤ)
        → ((pos 0 -ℤ (v *ℤ m)) *ℤ y) +ℤ (((v *ℤ n) -ℤ (y *ℤ m)) *ℤ pos 0) ≡ (pos 0 -ℤ (y *ℤ m)) *ℤ v
    mix_y y n v m =
        let Y = at 0 in let N = at 1 in let V = at 2 in let M = at 3 in
        let zero = num (pos 0) in
        ring (plus (times (minus zero (times V M)) Y) (times (minus (times V N) (times Y M)) zero))
        (times (minus zero (times Y M)) V) (vars (y ∷ n ∷ v ∷ m ∷ [])) refl

    mix_n : (y n v m : ℤ)
        → ((pos 0 -ℤ (v *ℤ m)) *ℤ n) +ℤ (((v *ℤ n) -ℤ (y *ℤ m)) *ℤ m) ≡ (pos 0 -ℤ (y *ℤ m)) *ℤ m
    mix_n y n v m =
        let Y = at 0 in let N = at 1 in let V = at 2 in let M = at 3 in
        let zero = num (pos 0) in
        ring (plus (times (minus zero (times V M)) N) (times (minus (times V N) (times Y M)) M))
        (times (minus zero (times Y M)) M) (vars (y ∷ n ∷ v ∷ m ∷ [])) refl

-- a place strictly over a straight whose ends are over the lower part
pub raised_over : (c : Cap) (p q : Point) (z : Vector) → IsCap c → Place z → p.x <ℤ q.x
    → InColumn p q z → InSlab c z → IsOver c (point p) → IsOver c (point q)
    → pos 0 <ℤ side (line p q) z → IsOver c z
raised_over c p q z hc hz h k slab op oq l = record {
  slab = slab;
  over = by_lt_z z.y (pos 0) (λ (m : z.y <ℤ pos 0). inl (inside m)) (λ m. inr m);
}
  where
    inside : z.y <ℤ pos 0 → shape c z <ℤ pos 0
    inside m =
        let w = stands p q z hz h k in
        let one : pos 0 <ℤ pos 1 = omega (arith, ints) in
        let o = over_mix c ((q.x *ℤ z.n) -ℤ z.x) (point p) (z.x -ℤ (p.x *ℤ z.n))
        (point q) hc one one w.s_least w.t_least w.some op oq in
        let lift = product_positive z.n (side (line p q) z) hz l in
        let e = stand-y p q z in
        raised_inside c (stand p q z) z hc w.place hz slab (stand-x p q z)
        (omega (arith, ints, e, lift)) m o
