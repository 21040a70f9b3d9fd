-- Two edges of one line: they are told apart by the order of their ends.
use Rattle.std.proofs.Common.{◌≡◌, ◌+◌, ◌^◌, ℤ, pos, ◌+ℤ◌, ◌*ℤ◌, ◌-ℤ◌, ◌<ℤ◌, ◌≤ℤ◌, ◌⊎◌, inl, inr}
use Rattle.std.proofs.Common.{[], ◌∷◌, refl, arith, sym, subst, ap}
use Rattle.std.proofs.lemmas.Int.{ints, by_lt_z}
use Rattle.plane.specs.declared.kinds.Point.{Point}
use Rattle.plane.specs.declared.kinds.Edge.{Edge}
use Rattle.plane.specs.Forms.Vectors.{Vector, Place, Same, mix, point, side, sweep, rise, Before}
use Rattle.plane.specs.Forms.Vectors.{On}
use Rattle.plane.specs.Forms.Weights.{Weight}
use Rattle.plane.specs.Forms.Meets as edges
use Rattle.plane.proofs.Algebra.Laws.{square_nonnegative, square_zero, product_comm}
use Rattle.plane.proofs.Algebra.Ring.{Expr, at, num, plus, minus, times, vars, ring}
use Rattle.plane.proofs.Algebra.Scaling.{cancel_zero, product_of_zero, times_lt}
use Rattle.plane.proofs.Linear.Vectors.{SIDE, side-mix, side-low, side-high, sweep-mix, rise-is}
use Rattle.plane.proofs.Linear.OnePlace.{sweep_same}
use Rattle.plane.proofs.Linear.Straights.{on_is}
use Rattle.plane.proofs.Linear.Weights.{weight_from_spread, rise_positive}
use Rattle.plane.proofs.Linear.EdgePlaces.{on_line, balanced}
use Rattle.straight_predicates.specs.Meetings.{EdgesAreClose}
use Rattle.straight_predicates.proofs.Crossing.{only_low, swap_same}

-- ---- the sweep values of the ends
-- two edges that the sweep goes along from low to high
pub record AreRising (w : ℤ) (s t : Edge) : Type 0 where
  pub first : pos 0 <ℤ rise w s
  pub second : pos 0 <ℤ rise w t

abbrev value : ℤ → Point → ℤ
value w p = sweep w (point p)

on_sweep : (w : ℤ) (e : Edge) (z : Vector) → pos 0 <ℤ rise w e → Place z → edges.OnStraight e z
    → On w e z
on_sweep w e z r Z h = (on_is w e z r Z).1 h

pub before_apart : (w : ℤ) (s t : Edge) → AreRising w s t → value w s.high <ℤ value w t.low
    → edges.Disjoint s t
before_apart w s t r l z Z on_s on_t =
    let a = (on_sweep w s z r.first Z on_s).high in
    let b = (on_sweep w t z r.second Z on_t).low in
    let c = times_lt z.n (value w s.high) (value w t.low) Z l in
    let d = product_comm z.n (value w s.high) in
    let e = product_comm z.n (value w t.low) in
    omega (arith, ints, a, b, c, d, e)

-- a place of an edge with the sweep value of its high end is that end
at_high : (w : ℤ) (e : Edge) (z : Vector) → pos 0 <ℤ rise w e → Place z → edges.OnStraight e z
    → (value w e.high *ℤ z.n) ≤ℤ sweep w z → Same z (point e.high)
at_high w e z r Z on high =
    let b = balanced e e z Z (on_line e z on) on in
    let m = mix b.i (point e.low) b.j (point e.high) in
    let s = sweep_same w z m b.is in
    let t = sweep-mix w b.i (point e.low) b.j (point e.high) in
    let o = (on_sweep w e z r Z on).high in
    let some = b.some in
    let i0 : b.i ≡ pos 0 = no_weight (value w e.low) (value w e.high) (sweep w z)
    (sweep w m) z.n b.i b.j Z (omega (arith, ints, r, rise-is w e))
    (omega (arith, ints, o, high)) s t in
    only_low z (point e.high) (point e.low) b.j b.i (omega (arith, ints, some, i0)) i0
    (swap_same z (point e.low) (point e.high) b.i b.j b.is)
  where
    no_weight : (l h z m n i j : ℤ) → pos 0 <ℤ n → pos 0 <ℤ (h -ℤ l) → z ≡ h *ℤ n
        → ((i *ℤ pos 1) +ℤ (j *ℤ pos 1)) *ℤ z ≡ n *ℤ m → m ≡ (i *ℤ l) +ℤ (j *ℤ h) → i ≡ pos 0
    no_weight l h z m n i j hn hr e f g =
        let a = ap (λ (x : ℤ). ((i *ℤ pos 1) +ℤ (j *ℤ pos 1)) *ℤ x) e in
        let b = ap (λ (x : ℤ). n *ℤ x) g in
        let one = num (pos 1) in
        let k = ring
        (minus (times (plus (times (at 3) one) (times (at 4) one)) (times (at 1) (at 2)))
        (times (at 2) (plus (times (at 3) (at 0)) (times (at 4) (at 1)))))
        (times (at 2) (times (minus (at 1) (at 0)) (at 3))) (vars (l ∷ h ∷ n ∷ i ∷ j ∷ [])) refl in
        cancel_zero (h -ℤ l) i hr
        (cancel_zero n ((h -ℤ l) *ℤ i) hn (omega (arith, ints, a, b, k, f)))

pub touch_in_line : (w : ℤ) (s t : Edge) → AreRising w s t → s.high ≡ t.low → edges.Touch s t
touch_in_line w s t r e = record {
  at = s.high;
  of_first = inr refl;
  of_second = inl (sym e);
  only = λ z Z on_s on_t.
      let low = (on_sweep w t z r.second Z on_t).low in
      at_high w s z r.first Z on_s
      (subst (λ (p : Point). (value w p *ℤ z.n) ≤ℤ sweep w z) (sym e) low);
}

-- ---- the overlap of two edges

square : (w : ℤ) (s : Edge) → pos 0 <ℤ rise w s
    → pos 0 <ℤ (((s.high.x -ℤ s.low.x) *ℤ (s.high.x -ℤ s.low.x))
    +ℤ ((s.high.y -ℤ s.low.y) *ℤ (s.high.y -ℤ s.low.y)))
unfolding rise
square w s r =
    let x = s.high.x -ℤ s.low.x in
    let y = s.high.y -ℤ s.low.y in
    let a = square_nonnegative x in
    let b = square_nonnegative y in
    by_lt_z (pos 0) ((x *ℤ x) +ℤ (y *ℤ y)) (λ l. l)
    (λ (l : ((x *ℤ x) +ℤ (y *ℤ y)) ≤ℤ pos 0).
    let x0 = square_zero x (omega (arith, ints, a, b, l)) in
    let y0 = square_zero y (omega (arith, ints, a, b, l)) in
    let i = ring (minus (plus (times (at 0) (at 3)) (at 4)) (plus (times (at 0) (at 1)) (at 2)))
    (plus (times (at 0) (minus (at 3) (at 1))) (minus (at 4) (at 2)))
    (vars (w ∷ s.low.x ∷ s.low.y ∷ s.high.x ∷ s.high.y ∷ [])) refl in
    let p = product_of_zero w x x0 in
    absurd (omega (arith, ints, r, i, p, y0)))

turned_back : (s t : Edge) (p : Point) →
    (((s.high.x -ℤ s.low.x) *ℤ (s.high.x -ℤ s.low.x))
    +ℤ ((s.high.y -ℤ s.low.y) *ℤ (s.high.y -ℤ s.low.y))) *ℤ side t (point p)
    ≡ ((((s.high.x -ℤ s.low.x) *ℤ (t.high.x -ℤ t.low.x))
    +ℤ ((s.high.y -ℤ s.low.y) *ℤ (t.high.y -ℤ t.low.y)))
    *ℤ (side s (point p) -ℤ side s (point t.low)))
    -ℤ ((((s.high.x -ℤ s.low.x) *ℤ (p.x -ℤ t.low.x)) +ℤ ((s.high.y -ℤ s.low.y) *ℤ (p.y -ℤ t.low.y)))
    *ℤ (side s (point t.high) -ℤ side s (point t.low)))
unfolding side
turned_back s t p =
    let one = num (pos 1) in
    let sx = minus (at 2) (at 0) in let sy = minus (at 3) (at 1) in
    let tx = minus (at 6) (at 4) in let ty = minus (at 7) (at 5) in
    let S : Expr → Expr → Expr = λ x y. SIDE (at 0) (at 1) (at 2) (at 3) x y one in
    let T = SIDE (at 4) (at 5) (at 6) (at 7) (at 8) (at 9) one in
    let dot : Expr → Expr → Expr = λ x y. plus (times sx x) (times sy y) in
    ring (times (dot sx sy) T)
    (minus (times (dot tx ty) (minus (S (at 8) (at 9)) (S (at 4) (at 5))))
    (times (dot (minus (at 8) (at 4)) (minus (at 9) (at 5)))
    (minus (S (at 6) (at 7)) (S (at 4) (at 5)))))
    (vars (s.low.x ∷ s.low.y ∷ s.high.x ∷ s.high.y ∷ t.low.x ∷ t.low.y ∷ t.high.x ∷ t.high.y ∷ p.x
    ∷ p.y ∷ [])) refl

pub record IsOneLine (s t : Edge) : Type 0 where
  pub low : side s (point t.low) ≡ pos 0
  pub high : side s (point t.high) ≡ pos 0

on_other : (w : ℤ) (s t : Edge) (p : Point) → pos 0 <ℤ rise w s → IsOneLine s t
    → side s (point p) ≡ pos 0 → side t (point p) ≡ pos 0
on_other w s t p r h e =
    let low = h.low in
    let high = h.high in
    let a = product_of_zero (((s.high.x -ℤ s.low.x) *ℤ (t.high.x -ℤ t.low.x))
    +ℤ ((s.high.y -ℤ s.low.y) *ℤ (t.high.y -ℤ t.low.y)))
    (side s (point p) -ℤ side s (point t.low)) (omega (arith, ints, e, low)) in
    let b = product_of_zero (((s.high.x -ℤ s.low.x) *ℤ (p.x -ℤ t.low.x))
    +ℤ ((s.high.y -ℤ s.low.y) *ℤ (p.y -ℤ t.low.y)))
    (side s (point t.high) -ℤ side s (point t.low)) (omega (arith, ints, high, low)) in
    cancel_zero _ (side t (point p)) (square w s r) (less _ _ _ (turned_back s t p) a b)
  where
    less : (x y z : ℤ) → x ≡ y -ℤ z → y ≡ pos 0 → z ≡ pos 0 → x ≡ pos 0
    less x y z e f g = omega (arith, ints, e, f, g)

-- a point of the line within the span of both edges
record IsShared (w : ℤ) (s t : Edge) (p : Point) : Type 0 where
  line : side s (point p) ≡ pos 0
  after_first : value w s.low ≤ℤ value w p
  after_second : value w t.low ≤ℤ value w p
  before_first : value w p ≤ℤ value w s.high
  before_second : value w p ≤ℤ value w t.high

-- half way between two such points
half_way : (w : ℤ) (s t : Edge) (p q : Point) → AreRising w s t → IsOneLine s t → IsShared w s t p
    → IsShared w s t q → value w p <ℤ value w q → edges.Bad s t
half_way w s t p q r one hp hq l =
    let m = mix (pos 1) (point p) (pos 1) (point q) in
    let M : Place m = omega (arith, ints) in
    let v = sweep-mix w (pos 1) (point p) (pos 1) (point q) in
    let ps = hp.line in let qs = hq.line in
    let pt = on_other w s t p r.first one ps in
    let qt = on_other w s t q r.first one qs in
    let ms = side-mix s (pos 1) (point p) (pos 1) (point q) in
    let mt = side-mix t (pos 1) (point p) (pos 1) (point q) in
    let a = hp.after_first in
    let b = hp.after_second in let c = hq.before_first in let d = hq.before_second in
    let on_s : On w s m = record {
      line = omega (arith, ints, ms, ps, qs);
      low = omega (arith, ints, v, a, l);
      high = omega (arith, ints, v, c, l);
    } in
    let on_t : On w t m = record {
      line = omega (arith, ints, mt, pt, qt);
      low = omega (arith, ints, v, b, l);
      high = omega (arith, ints, v, d, l);
    } in
    record {
      at = m;
      place = M;
      of_first = (on_is w s m r.first M).0 on_s;
      of_second = (on_is w t m r.second M).0 on_t;
      no_end = λ e. inner e.at (sweep_same w m (point e.at) e.is) e.of_first;
    }
  where
    inner : (e : Point)
        → pos 1 *ℤ sweep w (mix (pos 1) (point p) (pos 1) (point q))
        ≡ ((pos 1 *ℤ pos 1) +ℤ (pos 1 *ℤ pos 1)) *ℤ value w e
        → edges.IsEnd s e → ⊥
    inner e k (inl h) =
        let v = sweep-mix w (pos 1) (point p) (pos 1) (point q) in
        let x = ap (λ (p : Point). value w p) h in
        let a = hp.after_first in
        omega (arith, ints, k, v, x, a, l)
    inner e k (inr h) =
        let v = sweep-mix w (pos 1) (point p) (pos 1) (point q) in
        let x = ap (λ (p : Point). value w p) h in
        let c = hq.before_first in
        omega (arith, ints, k, v, x, c, l)

pub bad_in_line : (w : ℤ) (s t : Edge) → AreRising w s t → IsOneLine s t
    → value w t.low <ℤ value w s.high → value w s.low <ℤ value w t.high → edges.Bad s t
bad_in_line w s t r one a b =
    let rs : value w s.low <ℤ value w s.high = omega (arith, ints, r.first, rise-is w s) in
    let rt : value w t.low <ℤ value w t.high = omega (arith, ints, r.second, rise-is w t) in
    by_lt_z (value w s.low) (value w t.low)
    (λ (k : value w s.low <ℤ value w t.low).
    let p : IsShared w s t t.low = record {
      line = one.low;
      after_first = omega (arith, ints, k);
      after_second = omega (arith, ints);
      before_first = omega (arith, ints, a);
      before_second = omega (arith, ints, rt);
    } in
    by_lt_z (value w s.high) (value w t.high)
    (λ (h : value w s.high <ℤ value w t.high). half_way w s t t.low s.high r one p
    (record {
      line = side-high s;
      after_first = omega (arith, ints, rs);
      after_second = omega (arith, ints, a);
      before_first = omega (arith, ints);
      before_second = omega (arith, ints, h);
    }) a)
    (λ (h : value w t.high ≤ℤ value w s.high). half_way w s t t.low t.high r one p
    (record {
      line = one.high;
      after_first = omega (arith, ints, b);
      after_second = omega (arith, ints, rt);
      before_first = h;
      before_second = omega (arith, ints);
    }) rt))
    (λ (k : value w t.low ≤ℤ value w s.low).
    let p : IsShared w s t s.low = record {
      line = side-low s;
      after_first = omega (arith, ints);
      after_second = k;
      before_first = omega (arith, ints, rs);
      before_second = omega (arith, ints, b);
    } in
    by_lt_z (value w s.high) (value w t.high)
    (λ (h : value w s.high <ℤ value w t.high). half_way w s t s.low s.high r one p
    (record {
      line = side-high s;
      after_first = omega (arith, ints, rs);
      after_second = omega (arith, ints, a);
      before_first = omega (arith, ints);
      before_second = omega (arith, ints, h);
    }) rs)
    (λ (h : value w t.high ≤ℤ value w s.high). half_way w s t s.low t.high r one p
    (record {
      line = one.high;
      after_first = omega (arith, ints, b);
      after_second = omega (arith, ints, rt);
      before_first = h;
      before_second = omega (arith, ints);
    }) b))

-- ---- a weight for the four ends
abbrev pub heavy : ℤ
heavy = pos (2 ^ 42 + 1)

pub close_weight : (s t : Edge) → EdgesAreClose s t
    → Weight heavy (s.low ∷ s.high ∷ t.low ∷ t.high ∷ [])
close_weight s t c =
    let low = s.low.y -ℤ pos (2 ^ 41) in
    let high = s.low.y +ℤ pos (2 ^ 41) in
    let a = c.first.y in let b = c.low_low.y in let d = c.low_high.y in
    weight_from_spread heavy low high (s.low ∷ s.high ∷ t.low ∷ t.high ∷ []) (omega (arith, ints))
    (omega (arith, ints)) (
      (omega (arith, ints), omega (arith, ints)),
      (
        (omega (arith, ints, a), omega (arith, ints, a)),
        (
          (omega (arith, ints, b), omega (arith, ints, b)),
          ((omega (arith, ints, d), omega (arith, ints, d)), tt),
        ),
      ),
    )

-- ---- in the words of the order of points
-- two sorted edges whose four ends are close
pub record AreSorted (s t : Edge) : Type 0 where
  pub first : Before s.low s.high
  pub second : Before t.low t.high
  pub close : EdgesAreClose s t

rising_edges : (s t : Edge) → AreSorted s t → AreRising heavy s t
rising_edges s t h =
    let ends = s.low ∷ s.high ∷ t.low ∷ t.high ∷ [] in
    let w = close_weight s t h.close in
    record {
      first = rise_positive heavy ends s w (inl refl) (inr (inl refl)) h.first;
      second = rise_positive heavy ends t w (inr (inr (inl refl)))
          (inr (inr (inr (inl refl)))) h.second;
    }

touch_back : (s t : Edge) → edges.Touch t s → edges.Touch s t
touch_back s t h = record {
  at = h.at;
  of_first = h.of_second;
  of_second = h.of_first;
  only = λ z Z on_s on_t. h.only z Z on_t on_s;
}

pub line_apart : (s t : Edge) → AreSorted s t → Before s.high t.low ⊎ Before t.high s.low
    → edges.Disjoint s t
line_apart s t h b =
    let w = close_weight s t h.close in
    let r = rising_edges s t h in
    elim b [
      | inl k ↦ before_apart heavy s t r (w s.high t.low (inr (inl refl)) (inr (inr (inl refl))) k)
      | inr k ↦ let a =
          before_apart heavy t s (record { first = r.second; second = r.first })
          (w t.high s.low (inr (inr (inr (inl refl)))) (inl refl) k) in
          λ z Z on_s on_t. a z Z on_t on_s
    ]

pub line_touch : (s t : Edge) → AreSorted s t → (s.high ≡ t.low) ⊎ (t.high ≡ s.low)
    → edges.Touch s t
line_touch s t h b =
    let r = rising_edges s t h in
    elim b [
      | inl e ↦ touch_in_line heavy s t r e
      | inr e ↦ touch_back s t
          (touch_in_line heavy t s (record { first = r.second; second = r.first }) e)
    ]

pub line_bad : (s t : Edge) → AreSorted s t → IsOneLine s t → Before t.low s.high
    → Before s.low t.high → edges.Bad s t
line_bad s t h one a b =
    let w = close_weight s t h.close in
    bad_in_line heavy s t (rising_edges s t h) one
    (w t.low s.high (inr (inr (inl refl))) (inr (inl refl)) a)
    (w s.low t.high (inl refl) (inr (inr (inr (inl refl)))) b)
