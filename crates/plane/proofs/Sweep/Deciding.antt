-- Whether two edges are bad is decided by their gaps.
-- The gaps are taken where both have begun and where the first of them ends.
use Rattle.std.proofs.Common.{◌≡◌, ℤ, pos, ◌+ℤ◌, ◌*ℤ◌, ◌-ℤ◌, ◌<ℤ◌, ◌≤ℤ◌, ◌⊎◌, inl, inr, [], ◌∷◌}
use Rattle.std.proofs.Common.{refl, arith, ap, sym, ◌∙◌, subst}
use Rattle.std.proofs.lemmas.Int.{ints, by_lt_z}
use Rattle.plane.specs.declared.kinds.Point.{Point}
use Rattle.plane.specs.Forms.Vectors.{Vector, Place, point, Same, mix, Edge, side, sweep, rise, gap}
use Rattle.plane.specs.Forms.Vectors.{lift, foot, On, InSpan}
use Rattle.plane.specs.Forms.Meets.{IsEnd, CommonEnd}
use Rattle.plane.specs.Forms.Meets.{Fine, Bad}
use Rattle.plane.proofs.Algebra.Laws.{product_nonnegative, product_comm, zero-product}
use Rattle.plane.proofs.Algebra.Ring.{at, num, plus, minus, times, vars, ring}
use Rattle.plane.proofs.Algebra.Scaling.{cancel_zero}
use Rattle.plane.proofs.Linear.Vectors.{side-lift, sweep-mix, gap-three, gap-mix}
use Rattle.plane.proofs.Linear.Signs.{foot-side, foot-sweep, foot-n, foot_place, mix_place}
use Rattle.plane.proofs.Linear.Signs.{mix_in_span}
use Rattle.plane.proofs.Sweep.Meets.{end_test}
use Rattle.plane.proofs.Sweep.Pairs.{straight_on, on_straight, foot-gap, foot_upto}

-- ---- places of one edge with one sweep value are one place
same_at : (w : ℤ) (a : Edge) (z f : Vector) → pos 0 <ℤ rise w a → side a z ≡ pos 0
    → side a f ≡ pos 0 → sweep w z *ℤ f.n ≡ sweep w f *ℤ z.n → Same z f
unfolding sweep lift
same_at w a z f h ez ef level =
    let c : f.n *ℤ sweep w z ≡ z.n *ℤ sweep w f = product_comm f.n (sweep w z) ∙ level
    ∙ product_comm (sweep w f) z.n in
    let l = side-lift w a z f c in
    let x = ap (λ v. f.n *ℤ v) ez ∙ product_comm f.n (pos 0) ∙ zero-product f.n in
    let y = ap (λ v. z.n *ℤ v) ef ∙ product_comm z.n (pos 0) ∙ zero-product z.n in
    let none : rise w a *ℤ lift z f ≡ pos 0 = product_comm (rise w a) (lift z f)
    ∙ zero_of _ _ _ l x y in
    let same : (z.n *ℤ f.x) -ℤ (f.n *ℤ z.x) ≡ pos 0 = cancel_zero (rise w a) (lift z f) h none in
    let i = ring (times (at 0) (at 1)) (times (at 1) (at 0)) (vars (z.n ∷ f.x ∷ [])) refl in
    let j = ring (times (at 0) (at 1)) (times (at 1) (at 0)) (vars (f.n ∷ z.x ∷ [])) refl in
    let ex : z.x *ℤ f.n ≡ f.x *ℤ z.n = omega (arith, ints, same, i, j) in
    let k = ap (λ v. w *ℤ v) ex in
    let u = ring (times (plus (times (at 0) (at 1)) (at 2)) (at 3))
    (plus (times (at 0) (times (at 1) (at 3))) (times (at 2) (at 3)))
    (vars (w ∷ z.x ∷ z.y ∷ f.n ∷ [])) refl in
    let v = ring (times (plus (times (at 0) (at 1)) (at 2)) (at 3))
    (plus (times (at 0) (times (at 1) (at 3))) (times (at 2) (at 3)))
    (vars (w ∷ f.x ∷ f.y ∷ z.n ∷ [])) refl in
    record { x = ex; y = omega (arith, ints, k, u, v, level) }
  where
    zero_of : (a b c : ℤ) → a -ℤ b ≡ c → a ≡ pos 0 → b ≡ pos 0 → c ≡ pos 0
    zero_of a b c e f g = omega (arith, ints)

same_through : (z f : Vector) (c : Point) → Place f → Same z f → Same f (point c) → Same z (point c)
same_through z f c hf h k = record {
  x = through z.x z.n f.x f.n c.x hf h.x k.x;
  y = through z.y z.n f.y f.n c.y hf h.y k.y;
}
  where
    through : (zx zn fx fn cx : ℤ) → pos 0 <ℤ fn → zx *ℤ fn ≡ fx *ℤ zn → fx *ℤ pos 1 ≡ cx *ℤ fn
        → zx *ℤ pos 1 ≡ cx *ℤ zn
    through zx zn fx fn cx hf h k =
        let a : fx ≡ cx *ℤ fn = omega (arith, ints, k) in
        let b = ap (λ v. v *ℤ zn) a in
        let i = ring (times (times (at 0) (at 1)) (at 2)) (times (at 1) (times (at 0) (at 2)))
        (vars (cx ∷ fn ∷ zn ∷ [])) refl in
        let j = ring (times (at 1) (minus (at 0) (times (at 2) (at 3))))
        (minus (times (at 0) (at 1)) (times (at 1) (times (at 2) (at 3))))
        (vars (zx ∷ fn ∷ cx ∷ zn ∷ [])) refl in
        let e = cancel_zero fn (zx -ℤ (cx *ℤ zn)) hf (omega (arith, ints, h, b, i, j)) in
        omega (arith, ints, e)

equal_test : (a b : ℤ) → (a ≡ b) ⊎ (a ≡ b → ⊥)
equal_test a b =
    by_lt_z a b (λ (l : a <ℤ b). inr (λ e. omega (arith, ints, l, e)))
    (λ (l : b ≤ℤ a). by_lt_z b a (λ (k : b <ℤ a). inr (λ e. omega (arith, ints, k, e)))
    (λ (k : a ≤ℤ b). inl (omega (arith, ints, l, k))))

place_test : (f : Vector) (c : Point) → Same f (point c) ⊎ (Same f (point c) → ⊥)
place_test f c = elim (equal_test (f.x *ℤ pos 1) (c.x *ℤ f.n)) [
  | inl h ↦ elim (equal_test (f.y *ℤ pos 1) (c.y *ℤ f.n)) [
    | inl k ↦ inl (record { x = h; y = k })
    | inr n ↦ inr (λ s. n s.y)
  ]
  | inr n ↦ inr (λ s. n s.x)
]

common_at : (a b : Edge) (f : Vector) (c : Point) → IsEnd a c
    → CommonEnd a b f ⊎ (IsEnd b c → Same f (point c) → ⊥)
common_at a b f c h = elim (end_test b c) [
  | inl k ↦ elim (place_test f c) [
    | inl s ↦ inl (record { at = c; of_first = h; of_second = k; is = s })
    | inr n ↦ inr (λ i s. n s)
  ]
  | inr n ↦ inr (λ i s. n i)
]

common_test : (a b : Edge) (f : Vector) → CommonEnd a b f ⊎ (CommonEnd a b f → ⊥)
common_test a b f = elim (common_at a b f a.low (inl refl)) [
  | inl h ↦ inl h
  | inr n ↦ elim (common_at a b f a.high (inr refl)) [
    | inl h ↦ inl h
    | inr k ↦ inr (λ c. none a b f n k c.at c.of_first c.of_second c.is)
  ]
]
  where
    none : (a b : Edge) (f : Vector) → (IsEnd b a.low → Same f (point a.low) → ⊥)
        → (IsEnd b a.high → Same f (point a.high) → ⊥) → (c : Point) → IsEnd a c → IsEnd b c
        → Same f (point c) → ⊥
    none a b f n k c (inl q) i s =
        n (subst (λ p. IsEnd b p) (sym q) i) (subst (λ p. Same f (point p)) (sym q) s)
    none a b f n k c (inr q) i s =
        k (subst (λ p. IsEnd b p) (sym q) i) (subst (λ p. Same f (point p)) (sym q) s)

-- ---- one common place
-- a foot of one edge keeps the span of another
foot_from : (w : ℤ) (e : Edge) (y : Vector) (v : Point) → pos 0 <ℤ rise w e
    → (sweep w (point v) *ℤ y.n) ≤ℤ sweep w y
    → (sweep w (point v) *ℤ (foot w e y).n) ≤ℤ sweep w (foot w e y)
foot_from w e y v h l =
    rw (foot-sweep w e y, foot-n w e y)
    (weighted (rise w e) (sweep w (point v)) y.n (sweep w y) h l)
  where
    weighted : (r a n b : ℤ) → pos 0 <ℤ r → (a *ℤ n) ≤ℤ b → (a *ℤ (r *ℤ n)) ≤ℤ (r *ℤ b)
    weighted r a n b h l =
        let p = product_nonnegative r (b -ℤ (a *ℤ n)) (omega (arith, ints, h))
        (omega (arith, ints, l)) in
        let e = ring (times (at 0) (minus (at 3) (times (at 1) (at 2))))
        (minus (times (at 0) (at 3)) (times (at 1) (times (at 0) (at 2))))
        (vars (r ∷ a ∷ n ∷ b ∷ [])) refl in
        omega (arith, ints, p, e)

-- from where both edges have begun (p) to where the first of them ends (q)
pub record Overlap (w : ℤ) (a b : Edge) (p q : Point) : Type 0 where
  pub rise_first : pos 0 <ℤ rise w a
  pub rise_second : pos 0 <ℤ rise w b
  pub first_p : InSpan w a (point p)
  pub first_q : InSpan w a (point q)
  pub second_p : InSpan w b (point p)
  pub second_q : InSpan w b (point q)
  pub from : (z : Vector) → Place z → On w a z → On w b z → (sweep w (point p) *ℤ z.n) ≤ℤ sweep w z
  pub to : (z : Vector) → Place z → On w a z → On w b z → sweep w z ≤ℤ (sweep w (point q) *ℤ z.n)

-- a place of both at the weights s and t
pub meeting : (w : ℤ) (a b : Edge) (p q : Point) (s t : ℤ) → Overlap w a b p q → pos 0 ≤ℤ s
    → pos 0 ≤ℤ t → pos 0 <ℤ (s +ℤ t)
    → (s *ℤ gap w a b (point p)) +ℤ (t *ℤ gap w a b (point q)) ≡ pos 0
    → Place (foot w a (mix s (point p) t (point q)))
    × On w a (foot w a (mix s (point p) t (point q)))
    × On w b (foot w a (mix s (point p) t (point q)))
meeting w a b p q s t o hs ht some zero =
    let y = mix s (point p) t (point q) in
    let P : Place y = mix_place s (point p) t (point q) (omega (arith, ints))
    (omega (arith, ints)) hs ht some in
    let level : gap w a b y ≡ pos 0 = gap-mix w a b s (point p) t (point q) ∙ zero in
    let u = mix_in_span w a s (point p) t (point q) hs ht o.first_p o.first_q in
    let v = mix_in_span w b s (point p) t (point q) hs ht o.second_p o.second_q in
    let ra = o.rise_first in (
      foot_place w a y ra P,
      record {
        line = foot-side w a y;
        low = foot_from w a y a.low ra u.low;
        high = foot_upto w a y a.high ra u.high;
      },
      record {
        line = foot-gap w a b y ∙ level;
        low = foot_from w a y b.low ra v.low;
        high = foot_upto w a y b.high ra v.high;
      },
    )

-- where it is the only one, its being a common end decides
pub decided_at : (w : ℤ) (a b : Edge) (p q : Point) (s t : ℤ) → Overlap w a b p q → pos 0 ≤ℤ s
    → pos 0 ≤ℤ t → pos 0 <ℤ (s +ℤ t)
    → (s *ℤ gap w a b (point p)) +ℤ (t *ℤ gap w a b (point q)) ≡ pos 0
    → ((z : Vector) → Place z → On w a z → On w b z
    → s *ℤ (sweep w z -ℤ (sweep w (point p) *ℤ z.n))
    ≡ t *ℤ ((sweep w (point q) *ℤ z.n) -ℤ sweep w z))
    → Fine a b ⊎ Bad a b
decided_at w a b p q s t o hs ht some zero only =
    let y = mix s (point p) t (point q) in
    let f = foot w a y in
    let ra = o.rise_first in let rb = o.rise_second in
    let m = meeting w a b p q s t o hs ht some zero in
    elim (common_test a b f) [
      | inl c ↦ inl (λ z hz oa ob.
          let ona = straight_on w a z ra hz oa in
          let onb = straight_on w b z rb hz ob in
          let level : sweep w z *ℤ f.n ≡ sweep w f *ℤ z.n =
          ap (λ v. sweep w z *ℤ v) (foot-n w a y)
          ∙ even (rise w a) s t (sweep w (point p)) (sweep w (point q)) (sweep w z) z.n
          (only z hz ona onb)
          ∙ ap (λ v. (rise w a *ℤ v) *ℤ z.n) (sym (sweep-mix w s (point p) t (point q)))
          ∙ ap (λ v. v *ℤ z.n) (sym (foot-sweep w a y)) in
          record {
            at = c.at;
            of_first = c.of_first;
            of_second = c.of_second;
            is = same_through z f c.at m.0 (same_at w a z f ra ona.line m.1.line level) c.is;
          })
      | inr n ↦ inr (record {
        at = f;
        place = m.0;
        of_first = on_straight w a f ra m.0 m.1;
        of_second = on_straight w b f rb m.0 m.2;
        no_end = n;
      })
    ]
  where
    even : (r s t tp tq v n : ℤ) → s *ℤ (v -ℤ (tp *ℤ n)) ≡ t *ℤ ((tq *ℤ n) -ℤ v)
        → v *ℤ (r *ℤ ((s *ℤ pos 1) +ℤ (t *ℤ pos 1))) ≡ (r *ℤ ((s *ℤ tp) +ℤ (t *ℤ tq))) *ℤ n
    even r s t tp tq v n h =
        let i = ring
        (times (at 5)
        (times (at 0) (plus (times (at 1) (num (pos 1))) (times (at 2) (num (pos 1))))))
        (plus (times (times (at 0) (plus (times (at 1) (at 3)) (times (at 2) (at 4)))) (at 6))
        (times (at 0)
        (minus (times (at 1) (minus (at 5) (times (at 3) (at 6))))
        (times (at 2) (minus (times (at 4) (at 6)) (at 5))))))
        (vars (r ∷ s ∷ t ∷ tp ∷ tq ∷ v ∷ n ∷ [])) refl in
        let d : (s *ℤ (v -ℤ (tp *ℤ n))) -ℤ (t *ℤ ((tq *ℤ n) -ℤ v))
        ≡ pos 0 = omega (arith, ints, h) in
        let e = ap (λ x. r *ℤ x) d ∙ product_comm r (pos 0) ∙ zero-product r in
        omega (arith, ints, i, e)

-- ---- the cases
-- a common place has gap 0
common_gap : (w : ℤ) (a b : Edge) (z : Vector) → side a z ≡ pos 0 → side b z ≡ pos 0
    → gap w a b z ≡ pos 0
unfolding gap
common_gap w a b z ea eb =
    let x = ap (λ v. rise w a *ℤ v) eb ∙ product_comm (rise w a) (pos 0)
    ∙ zero-product (rise w a) in
    let y = ap (λ v. rise w b *ℤ v) ea ∙ product_comm (rise w b) (pos 0)
    ∙ zero-product (rise w b) in
    omega (arith, ints, x, y)

-- the two distances of a common place weigh the gaps to 0
pub weighed : (w : ℤ) (a b : Edge) (p q : Point) (z : Vector) → side a z ≡ pos 0 → side b z ≡ pos 0
    → (gap w a b (point p) *ℤ ((sweep w (point q) *ℤ z.n) -ℤ sweep w z))
    +ℤ (gap w a b (point q) *ℤ (sweep w z -ℤ (sweep w (point p) *ℤ z.n))) ≡ pos 0
weighed w a b p q z ea eb =
    plain (gap w a b z) (gap w a b (point p)) (gap w a b (point q)) (sweep w (point p))
    (sweep w (point q)) (sweep w z) z.n (common_gap w a b z ea eb)
    (gap-three w a b z (point p) (point q))
  where
    plain : (d gp gq tp tq s n : ℤ) → d ≡ pos 0
        → d *ℤ ((tq *ℤ pos 1) -ℤ (tp *ℤ pos 1))
        ≡ (gp *ℤ ((tq *ℤ n) -ℤ (s *ℤ pos 1))) +ℤ (gq *ℤ ((s *ℤ pos 1) -ℤ (tp *ℤ n)))
        → (gp *ℤ ((tq *ℤ n) -ℤ s)) +ℤ (gq *ℤ (s -ℤ (tp *ℤ n))) ≡ pos 0
    plain d gp gq tp tq s n h e =
        let z = ap (λ v. v *ℤ ((tq *ℤ pos 1) -ℤ (tp *ℤ pos 1))) h
        ∙ zero-product ((tq *ℤ pos 1) -ℤ (tp *ℤ pos 1)) in
        let i = ring
        (plus (times (at 1) (minus (times (at 4) (at 6)) (times (at 5) (num (pos 1)))))
        (times (at 2) (minus (times (at 5) (num (pos 1))) (times (at 3) (at 6)))))
        (plus (times (at 1) (minus (times (at 4) (at 6)) (at 5)))
        (times (at 2) (minus (at 5) (times (at 3) (at 6)))))
        (vars (d ∷ gp ∷ gq ∷ tp ∷ tq ∷ s ∷ n ∷ [])) refl in
        omega (arith, ints, z, i, e)

-- a common place on the sweep line of p: the gap is 0 there
pub level_gap : (w : ℤ) (a b : Edge) (p : Point) (z : Vector) → Place z → side a z ≡ pos 0
    → side b z ≡ pos 0 → sweep w z ≡ sweep w (point p) *ℤ z.n → gap w a b (point p) ≡ pos 0
unfolding gap
level_gap w a b p z hz ea eb h =
    let c : pos 1 *ℤ sweep w z ≡ z.n *ℤ sweep w (point p) = turned (sweep w z)
    (sweep w (point p)) z.n h in
    plain (rise w a) (rise w b) (side a (point p)) (side b (point p)) (side a z) (side b z) z.n
    (lift z (point p)) hz ea eb (side-lift w a z (point p) c) (side-lift w b z (point p) c)
  where
    turned : (a b n : ℤ) → a ≡ b *ℤ n → pos 1 *ℤ a ≡ n *ℤ b
    turned a b n h =
        let e = ring (times (at 1) (at 2)) (times (at 2) (at 1)) (vars (a ∷ b ∷ n ∷ [])) refl in
        omega (arith, ints, h, e)

    plain : (ra rb sa sb za zb n l : ℤ) → pos 0 <ℤ n → za ≡ pos 0 → zb ≡ pos 0
        → (pos 1 *ℤ za) -ℤ (n *ℤ sa) ≡ l *ℤ ra → (pos 1 *ℤ zb) -ℤ (n *ℤ sb) ≡ l *ℤ rb
        → (ra *ℤ sb) -ℤ (rb *ℤ sa) ≡ pos 0
    plain ra rb sa sb za zb n l hn ea eb ha hb =
        let x : n *ℤ sa ≡ pos 0 -ℤ (l *ℤ ra) = omega (arith, ints, ea, ha) in
        let y : n *ℤ sb ≡ pos 0 -ℤ (l *ℤ rb) = omega (arith, ints, eb, hb) in
        let u = ap (λ v. rb *ℤ v) x in
        let v = ap (λ v. ra *ℤ v) y in
        let i = ring (times (at 4) (minus (times (at 0) (at 3)) (times (at 1) (at 2))))
        (minus (times (at 0) (times (at 4) (at 3))) (times (at 1) (times (at 4) (at 2))))
        (vars (ra ∷ rb ∷ sa ∷ sb ∷ n ∷ l ∷ [])) refl in
        let j = ring (times (at 0) (minus (num (pos 0)) (times (at 5) (at 1))))
        (times (at 1) (minus (num (pos 0)) (times (at 5) (at 0))))
        (vars (ra ∷ rb ∷ sa ∷ sb ∷ n ∷ l ∷ [])) refl in
        cancel_zero n ((ra *ℤ sb) -ℤ (rb *ℤ sa)) hn (omega (arith, ints, u, v, i, j))
