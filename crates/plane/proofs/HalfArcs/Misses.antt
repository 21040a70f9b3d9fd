-- Segments that miss a half arc.
use Rattle.std.proofs.Common.{◌≡◌, ℤ, pos, ◌+ℤ◌, ◌*ℤ◌, ◌-ℤ◌, ◌<ℤ◌, ◌≤ℤ◌, [], ◌∷◌, refl, arith, ap}
use Rattle.std.proofs.Common.{subst, sym}
use Rattle.std.proofs.lemmas.Int.{ints, by_lt_z}
use Rattle.plane.specs.Forms.Vectors.{Vector, Place, Same, mix}
use Rattle.plane.specs.Forms.Arcs.{HalfArc, power, along, bow, seen}
use Rattle.plane.proofs.HalfArcs.HitWords.{HitsArc}
use Rattle.plane.specs.Tubes.Caps.{Cap, IsCap, shape, cap}
use Rattle.plane.proofs.Algebra.Laws.{product_nonnegative, square_nonnegative}
use Rattle.plane.proofs.Linear.Signs.{mix_place}
use Rattle.plane.proofs.Algebra.Ring.{at, plus, minus, times, vars, ring}
use Rattle.plane.proofs.Caps.ChordCircle.{inside_mix, shape_rises}
use Rattle.plane.proofs.Caps.CapOver.{times_below, times_most, cancel_below, cancel_most}
use Rattle.plane.proofs.Caps.CapOver.{shape_same, square_positive}
use Rattle.plane.proofs.Caps.Seen.{seen-mix, seen_same, shape_below, shape_most, power_below}
use Rattle.plane.proofs.Caps.Seen.{power_most}
use Rattle.plane.proofs.Linear.Clear.{mix_back}

-- ---- one place, two vectors
pub below_same : (c : Cap) (z m : Vector) → Place z → Place m → Same z m → shape c m <ℤ pos 0
    → shape c z <ℤ pos 0
below_same c z m hz hm h k =
    let p = times_below (z.n *ℤ z.n) (shape c m) (square_positive z.n hz) k in
    let e = shape_same c z m h in
    cancel_below (m.n *ℤ m.n) (shape c z) (square_positive m.n hm) (omega (arith, ints, p, e))

pub most_same : (c : Cap) (z m : Vector) → Place z → Place m → Same z m → shape c z ≤ℤ pos 0
    → shape c m ≤ℤ pos 0
most_same c z m hz hm h k =
    let p = times_most (m.n *ℤ m.n) (shape c z) (square_nonnegative m.n) k in
    let e = shape_same c z m h in
    cancel_most (z.n *ℤ z.n) (shape c m) (square_positive z.n hz) (omega (arith, ints, p, e))

-- ---- both ends inside
pub inside_misses : (h : HalfArc) (p q : Vector) → IsCap (cap h) → Place p → Place q
    → power h p <ℤ pos 0 → power h q <ℤ pos 0 → HitsArc h p q → ⊥
inside_misses h p q hc hp hq a b k =
    let w = k.v_between in
    let m = mix w.s p w.t q in
    let hm = mix_place w.s p w.t q hp hq w.s_least w.t_least w.some in
    let inside : shape (cap h) (seen h m) <ℤ pos 0 = subst
    (λ (z : Vector). shape (cap h) z <ℤ pos 0) (sym (seen-mix h w.s p w.t q))
    (mixed w.s w.t w.s_least w.t_least w.some) in
    let v = below_same (cap h) (seen h k.v) (seen h m) k.v_place hm
    (seen_same h k.v m w.is) inside in
    let e = power_below h k.v hc v in
    let f = k.v_out in
    omega (arith, ints, e, f)
  where
    mixed : (s t : ℤ) → pos 0 ≤ℤ s → pos 0 ≤ℤ t → pos 0 <ℤ (s +ℤ t)
        → shape (cap h) (mix s (seen h p) t (seen h q)) <ℤ pos 0
    mixed s t hs ht some = by_lt_z (pos 0) s
        (λ (l : pos 0 <ℤ s). inside_mix (cap h) s (seen h p) t (seen h q) hc hp hq l ht
        (shape_below h p hc a) (shape_most h q hc (omega (arith, ints, b))))
        (λ (l : s ≤ℤ pos 0). subst (λ (z : Vector). shape (cap h) z <ℤ pos 0)
        (mix_back t s (seen h q) (seen h p))
        (inside_mix (cap h) t (seen h q) s (seen h p) hc hq hp (omega (arith, ints, l, some)) hs
        (shape_below h q hc b) (shape_most h p hc (omega (arith, ints, a)))))

-- ---- straight up from a place outside
pub shape_higher : (c : Cap) (p q : Vector) → IsCap c → Place p → Place q → p.x *ℤ q.n ≡ q.x *ℤ p.n
    → pos 0 ≤ℤ p.y → (p.y *ℤ q.n) ≤ℤ (q.y *ℤ p.n)
    → ((q.n *ℤ q.n) *ℤ shape c p) ≤ℤ ((p.n *ℤ p.n) *ℤ shape c q)
shape_higher c p q hc hp hq e low h = by_lt_z (p.y *ℤ q.n) (q.y *ℤ p.n)
    (λ (l : (p.y *ℤ q.n) <ℤ (q.y *ℤ p.n)). let k = shape_rises c p q hc hp hq e low l in
    omega (arith, ints, k))
    (λ (l : (q.y *ℤ p.n) ≤ℤ (p.y *ℤ q.n)). let k = shape_same c p q record {
      x = e;
      y = omega (arith, ints, h, l);
    } in omega (arith, ints, k))

pub upward_misses : (h : HalfArc) (p q : Vector) → IsCap (cap h) → Place p → Place q
    → along h p *ℤ q.n ≡ along h q *ℤ p.n → pos 0 ≤ℤ bow h p → (bow h p *ℤ q.n) ≤ℤ (bow h q *ℤ p.n)
    → pos 0 <ℤ power h p → HitsArc h p q → ⊥
upward_misses h p q hc hp hq e low up out k =
    let w = k.u_between in
    let m = mix w.s p w.t q in
    let hm = mix_place w.s p w.t q hp hq w.s_least w.t_least w.some in
    let in_u = most_same (cap h) (seen h k.u) (seen h m) k.u_place hm (seen_same h k.u m w.is)
    (shape_most h k.u hc k.u_in) in
    let in_m : shape (cap h) (mix w.s (seen h p) w.t (seen h q)) ≤ℤ pos 0 = subst
    (λ (z : Vector). shape (cap h) z ≤ℤ pos 0) (seen-mix h w.s p w.t q) in_u in
    let ex = same_x w.s w.t (along h p) p.n (along h q) q.n e in
    let ey = higher w.s w.t (bow h p) p.n (bow h q) q.n w.t_least up in
    let r = shape_higher (cap h) (seen h p)
    (mix w.s (seen h p) w.t (seen h q)) hc hp hm ex low ey in
    let x = times_most (p.n *ℤ p.n) (shape (cap h) (mix w.s (seen h p) w.t (seen h q)))
    (square_nonnegative p.n) in_m in
    let y = cancel_most (m.n *ℤ m.n) (shape (cap h) (seen h p)) (square_positive m.n hm)
    (chain _ _ r x) in
    let z = power_most h p hc y in
    omega (arith, ints, z, out)
  where
    chain : (a b : ℤ) → a ≤ℤ b → b ≤ℤ pos 0 → a ≤ℤ pos 0
    chain a b h k = omega (arith, ints, h, k)

    same_x : (s t a m b n : ℤ) → a *ℤ n ≡ b *ℤ m
        → a *ℤ ((s *ℤ m) +ℤ (t *ℤ n)) ≡ ((s *ℤ a) +ℤ (t *ℤ b)) *ℤ m
    same_x s t a m b n e =
        let S = at 0 in
        let T = at 1 in let A = at 2 in let M = at 3 in let B = at 4 in let N = at 5 in
        let i = ring
        (minus (times A (plus (times S M) (times T N)))
        (times (plus (times S A) (times T B)) M))
        (minus (times T (times A N)) (times T (times B M)))
        (vars (s ∷ t ∷ a ∷ m ∷ b ∷ n ∷ [])) refl in
        let f = ap (λ (v : ℤ). t *ℤ v) e in
        omega (arith, ints, i, f)

    higher : (s t a m b n : ℤ) → pos 0 ≤ℤ t → (a *ℤ n) ≤ℤ (b *ℤ m)
        → (a *ℤ ((s *ℤ m) +ℤ (t *ℤ n))) ≤ℤ (((s *ℤ a) +ℤ (t *ℤ b)) *ℤ m)
    higher s t a m b n ht l =
        let S = at 0 in
        let T = at 1 in let A = at 2 in let M = at 3 in let B = at 4 in let N = at 5 in
        let p = product_nonnegative t ((b *ℤ m) -ℤ (a *ℤ n)) ht (omega (arith, ints, l)) in
        let i = ring (times T (minus (times B M) (times A N)))
        (minus (times (plus (times S A) (times T B)) M)
        (times A (plus (times S M) (times T N)))) (vars (s ∷ t ∷ a ∷ m ∷ b ∷ n ∷ [])) refl in
        omega (arith, ints, p, i)
