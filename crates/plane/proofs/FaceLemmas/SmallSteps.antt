-- Forms that are above 0 off an edge.
-- Some place so near to a given one keeps all their signs.
use Rattle.std.proofs.Common.{◌≡◌, ℕ, zero, suc, ◌<◌, ℤ, pos, negsuc, ◌+ℤ◌, ◌*ℤ◌, ◌-ℤ◌, ◌<ℤ◌, ◌≤ℤ◌}
use Rattle.std.proofs.Common.{[], ◌∷◌, refl, arith, ap, sym, ◌∙◌, subst}
use Rattle.std.proofs.lemmas.Int.{ints, by_lt_z}
use Rattle.plane.specs.Forms.Vectors.{Vector, Place, point, mix, Edge, side, sweep, On, HitsEdge}
use Rattle.plane.proofs.Algebra.Laws.{weight_at_most}
use Rattle.plane.proofs.Linear.Vectors.{side-mix, sweep-mix}
use Rattle.plane.proofs.Linear.Signs.{by_sign}
use Rattle.plane.proofs.Linear.Clear.{mix_clear}
use Rattle.plane.proofs.Strips.OneStrip.{by_last}
use Rattle.plane.proofs.Algebra.Ring.{at, num, plus, minus, times, vars, ring}

-- the four ways to be off an edge
pub data Way : Type 0 where
  over : Way
  under : Way
  early : Way
  late : Way

abbrev pub value : ℤ → Edge → Way → Vector → ℤ
value w e over v = side e v
value w e under v = pos 0 -ℤ side e v
value w e early v = (sweep w (point e.low) *ℤ v.n) -ℤ sweep w v
value w e late v = sweep w v -ℤ (sweep w (point e.high) *ℤ v.n)

spread : (c s a t b m n : ℤ)
    → (c *ℤ ((s *ℤ m) +ℤ (t *ℤ n))) -ℤ ((s *ℤ a) +ℤ (t *ℤ b))
    ≡ (s *ℤ ((c *ℤ m) -ℤ a)) +ℤ (t *ℤ ((c *ℤ n) -ℤ b))
spread c s a t b m n =
    ring (minus (times (at 0) (plus (times (at 1) (at 5)) (times (at 3) (at 6))))
    (plus (times (at 1) (at 2)) (times (at 3) (at 4))))
    (plus (times (at 1) (minus (times (at 0) (at 5)) (at 2)))
    (times (at 3) (minus (times (at 0) (at 6)) (at 4))))
    (vars (c ∷ s ∷ a ∷ t ∷ b ∷ m ∷ n ∷ [])) refl

spread_back : (c s a t b m n : ℤ)
    → ((s *ℤ a) +ℤ (t *ℤ b)) -ℤ (c *ℤ ((s *ℤ m) +ℤ (t *ℤ n)))
    ≡ (s *ℤ (a -ℤ (c *ℤ m))) +ℤ (t *ℤ (b -ℤ (c *ℤ n)))
spread_back c s a t b m n =
    ring (minus (plus (times (at 1) (at 2)) (times (at 3) (at 4)))
    (times (at 0) (plus (times (at 1) (at 5)) (times (at 3) (at 6)))))
    (plus (times (at 1) (minus (at 2) (times (at 0) (at 5))))
    (times (at 3) (minus (at 4) (times (at 0) (at 6)))))
    (vars (c ∷ s ∷ a ∷ t ∷ b ∷ m ∷ n ∷ [])) refl

spread_less : (s a t b : ℤ)
    → pos 0 -ℤ ((s *ℤ a) +ℤ (t *ℤ b)) ≡ (s *ℤ (pos 0 -ℤ a)) +ℤ (t *ℤ (pos 0 -ℤ b))
spread_less s a t b =
    let zero = num (pos 0) in
    ring (minus zero (plus (times (at 0) (at 1)) (times (at 2) (at 3))))
    (plus (times (at 0) (minus zero (at 1))) (times (at 2) (minus zero (at 3))))
    (vars (s ∷ a ∷ t ∷ b ∷ [])) refl

pub value_mix : (w : ℤ) (e : Edge) (i : Way) (s : ℤ) (p : Vector) (t : ℤ) (q : Vector)
    → value w e i (mix s p t q) ≡ (s *ℤ value w e i p) +ℤ (t *ℤ value w e i q)
value_mix w e over s p t q = side-mix e s p t q
value_mix w e under s p t q = ap (λ (v : ℤ). pos 0 -ℤ v) (side-mix e s p t q)
    ∙ spread_less s (side e p) t (side e q)
value_mix w e early s p t q =
    ap (λ (v : ℤ). (sweep w (point e.low) *ℤ ((s *ℤ p.n) +ℤ (t *ℤ q.n))) -ℤ v) (sweep-mix w s p t q)
    ∙ spread (sweep w (point e.low)) s (sweep w p) t (sweep w q) p.n q.n
value_mix w e late s p t q =
    ap (λ (v : ℤ). v -ℤ (sweep w (point e.high) *ℤ ((s *ℤ p.n) +ℤ (t *ℤ q.n))))
    (sweep-mix w s p t q)
    ∙ spread_back (sweep w (point e.high)) s (sweep w p) t (sweep w q) p.n q.n

pub value_on : (w : ℤ) (e : Edge) (i : Way) (v : Vector) → On w e v → value w e i v ≤ℤ pos 0
value_on w e over v on = let l = on.line in omega (arith, ints, l)
value_on w e under v on = let l = on.line in omega (arith, ints, l)
value_on w e early v on = let l = on.low in omega (arith, ints, l)
value_on w e late v on = let l = on.high in omega (arith, ints, l)

pub off_way : (w : ℤ) (e : Edge) (z : Vector) → (On w e z → ⊥)
    → (i : Way) × (pos 0 <ℤ value w e i z)
off_way w e z off = by_sign (side e z)
    (λ (l : side e z <ℤ pos 0). (under, omega (arith, ints, l)))
    (λ (l : side e z ≡ pos 0). by_lt_z (sweep w z) (sweep w (point e.low) *ℤ z.n)
    (λ (a : sweep w z <ℤ (sweep w (point e.low) *ℤ z.n)). (early, omega (arith, ints, a)))
    (λ (a : (sweep w (point e.low) *ℤ z.n) ≤ℤ sweep w z). by_lt_z (sweep w (point e.high) *ℤ z.n)
    (sweep w z)
    (λ (b : (sweep w (point e.high) *ℤ z.n) <ℤ sweep w z). (late, omega (arith, ints, b)))
    (λ (b : sweep w z ≤ℤ (sweep w (point e.high) *ℤ z.n)). absurd (off record {
      line = l;
      low = a;
      high = b;
    }))))
    (λ (l : pos 0 <ℤ side e z). (over, l))

positive_sum : (s a t b : ℤ) → pos 0 ≤ℤ s → pos 0 ≤ℤ t → pos 0 <ℤ (s +ℤ t) → pos 0 <ℤ a → pos 0 <ℤ b
    → pos 0 <ℤ ((s *ℤ a) +ℤ (t *ℤ b))
positive_sum s a t b hs ht some ha hb =
    let x = weight_at_most s a hs ha in
    let y = weight_at_most t b ht hb in omega (arith, ints, x, y, some)

-- one way at both ends: no hit
pub way_clear : (w : ℤ) (e : Edge) (i : Way) (p q : Vector) → Place p → Place q
    → pos 0 <ℤ value w e i p → pos 0 <ℤ value w e i q → HitsEdge w p q e → ⊥
way_clear w e i p q P Q hp hq = mix_clear w e p q P Q (λ s t hs ht some on.
    let a = positive_sum s (value w e i p) t (value w e i q) hs ht some hp hq in
    let b = value_on w e i (mix s p t q) on in
    let c = value_mix w e i s p t q in
    omega (arith, ints, a, b, c))

-- ---- near to z, in the direction of d
abbrev pub near : ℤ → Vector → Vector → Vector
near n z d = mix n z (pos 1) d

pub near_keeps : (w : ℤ) (e : Edge) (i : Way) (n : ℤ) (z d : Vector) → pos 0 ≤ℤ n
    → (pos 0 -ℤ value w e i d) <ℤ n → pos 0 <ℤ value w e i z → pos 0 <ℤ value w e i (near n z d)
near_keeps w e i n z d least large h =
    let a = weight_at_most n (value w e i z) least h in
    let b = value_mix w e i n z (pos 1) d in
    plain (value w e i (near n z d)) n (n *ℤ value w e i z) (value w e i d) a b large
  where
    plain : (v n a d : ℤ) → n ≤ℤ a → v ≡ a +ℤ (pos 1 *ℤ d) → (pos 0 -ℤ d) <ℤ n → pos 0 <ℤ v
    plain v n a d h e l = omega (arith, ints)

pub near_zero : (w : ℤ) (e : Edge) (i : Way) (n : ℤ) (z d : Vector) → value w e i z ≡ pos 0
    → pos 0 <ℤ value w e i d → pos 0 <ℤ value w e i (near n z d)
near_zero w e i n z d none h =
    let b = value_mix w e i n z (pos 1) d in
    let c = ap (λ (v : ℤ). n *ℤ v) none in
    plain (value w e i (near n z d)) n (n *ℤ value w e i z) (value w e i d) b c h
  where
    plain : (v n a d : ℤ) → v ≡ a +ℤ (pos 1 *ℤ d) → a ≡ n *ℤ pos 0 → pos 0 <ℤ d → pos 0 <ℤ v
    plain v n a d e f l =
        let g : n *ℤ pos 0 ≡ pos 0 = omega (arith, ints) in omega (arith, ints, e, f, l, g)

-- ---- numbers large enough for all edges
abbrev pub IsLarge : ℤ → (ℕ → Edge) → ℕ → ℤ → Vector → Type 0
IsLarge w E m n d = (f : ℕ) → f < m → (i : Way) → (pos 0 -ℤ value w (E f) i d) <ℤ n

square_least : (b : ℤ) → ((pos 0 -ℤ b) ≤ℤ (b *ℤ b)) × (pos 0 ≤ℤ (b *ℤ b))
square_least (pos n) = (omega (arith, ints), omega (arith, ints))
square_least (negsuc n) = (omega (arith, ints), omega (arith, ints))

pub large : (w : ℤ) (E : ℕ → Edge) (m : ℕ) (d : Vector) → (n : ℤ) × (pos 0 <ℤ n) × IsLarge w E m n d
large w E zero d = (pos 1, omega (arith, ints), λ (f : ℕ) (l : f < 0) i. absurd (omega arith))
large w E (suc m) d =
    let k = large w E m d in
    let v : Way → ℤ = λ i. value w (E m) i d in
    let a = square_least (v over) in let a0 = a.0 in let a1 = a.1 in
    let b = square_least (v under) in let b0 = b.0 in let b1 = b.1 in
    let c = square_least (v early) in let c0 = c.0 in let c1 = c.1 in
    let e = square_least (v late) in let e0 = e.0 in let e1 = e.1 in
    let n = k.0 in
    let positive = k.1 in
    let top = n +ℤ (((v over *ℤ v over) +ℤ (v under *ℤ v under))
    +ℤ ((v early *ℤ v early) +ℤ (v late *ℤ v late))) in
    let at_last : (i : Way)
    → (pos 0 -ℤ v i) <ℤ top =
    last n (v over) (v under) (v early) (v late) v refl refl refl refl positive a b c e in (
      top,
      omega (arith, ints, positive, a1, b1, c1, e1),
      λ (f : ℕ) (l : f < suc m) i. by_last f m l
          (λ (h : f < m). let g = k.2 f h i in
          more (pos 0 -ℤ value w (E f) i d) n _ g (omega (arith, ints, a1, b1, c1, e1)))
          (λ (h : f ≡ m). subst (λ (x : ℕ). (pos 0 -ℤ value w (E x) i d) <ℤ top) (sym h)
          (at_last i)),
    )
  where
    more : (a b c : ℤ) → a <ℤ b → pos 0 ≤ℤ c → a <ℤ (b +ℤ c)
    more a b c h k = omega (arith, ints)

    last : (n a b c e : ℤ) (v : Way → ℤ) → v over ≡ a → v under ≡ b → v early ≡ c → v late ≡ e
        → pos 0 <ℤ n
        → ((pos 0 -ℤ a) ≤ℤ (a *ℤ a)) × (pos 0 ≤ℤ (a *ℤ a))
        → ((pos 0 -ℤ b) ≤ℤ (b *ℤ b)) × (pos 0 ≤ℤ (b *ℤ b))
        → ((pos 0 -ℤ c) ≤ℤ (c *ℤ c)) × (pos 0 ≤ℤ (c *ℤ c))
        → ((pos 0 -ℤ e) ≤ℤ (e *ℤ e)) × (pos 0 ≤ℤ (e *ℤ e))
        → (i : Way) → (pos 0 -ℤ v i) <ℤ (n +ℤ (((a *ℤ a) +ℤ (b *ℤ b)) +ℤ ((c *ℤ c) +ℤ (e *ℤ e))))
    last n a b c e v va vb vc ve h (xa, ya) (xb, yb) (xc, yc) (xe, ye) over = omega (arith, ints)
    last n a b c e v va vb vc ve h (xa, ya) (xb, yb) (xc, yc) (xe, ye) under = omega (arith, ints)
    last n a b c e v va vb vc ve h (xa, ya) (xb, yb) (xc, yc) (xe, ye) early = omega (arith, ints)
    last n a b c e v va vb vc ve h (xa, ya) (xb, yb) (xc, yc) (xe, ye) late = omega (arith, ints)
