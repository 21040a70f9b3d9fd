-- Places of a segment as mixes of its ends, and closures of cells along it.
use Rattle.std.proofs.Common.{◌≡◌, ℕ, ◌<◌, ◌≤◌, List, [], ◌∷◌, ◌++◌, length, ℤ, pos, ◌+ℤ◌, ◌*ℤ◌}
use Rattle.std.proofs.Common.{◌<ℤ◌, ◌≤ℤ◌, ◌⊎◌, inl, inr, refl, arith, ap, sym, ◌∙◌, subst}
use Rattle.std.proofs.lemmas.Int.{ints}
use Rattle.plane.specs.Lists.{Has}
use Rattle.plane.specs.Forms.Vectors.{Vector, Place, mix, side, sweep}
use Rattle.plane.specs.Faces.Replays.{Replay, reach}
use Rattle.plane.specs.Faces.Halves.{Half, under, over, twin, edge_of}
use Rattle.plane.specs.CurveRuns.Extended.{IsOnWay}
use Rattle.plane.proofs.Algebra.Laws.{product_nonnegative, product-sum, weight_at_most}
use Rattle.plane.proofs.Algebra.Scaling.{times_le}
use Rattle.plane.proofs.Algebra.Ring.{at, plus, times, vars, ring}
use Rattle.plane.proofs.Linear.Vectors.{side-mix, sweep-mix}
use Rattle.plane.proofs.Linear.Signs.{mix_place}
use Rattle.plane.proofs.Linear.Clear.{vector_eq}
use Rattle.plane.proofs.Strips.ToTheRight.{IsClosed}
use Rattle.plane.proofs.Windings.Closures.{IsClose}

-- ---- mixes of mixes
mix_mix : (a s t b m n : ℤ) (p q : Vector)
    → mix a (mix s p t q) b (mix m p n q) ≡ mix ((a *ℤ s) +ℤ (b *ℤ m)) p ((a *ℤ t) +ℤ (b *ℤ n)) q
mix_mix a s t b m n p q =
    vector_eq _ _ (one a s t b m n p.x q.x) (one a s t b m n p.y q.y) (one a s t b m n p.n q.n)
  where
    one : (a s t b m n x y : ℤ)
        → (a *ℤ ((s *ℤ x) +ℤ (t *ℤ y))) +ℤ (b *ℤ ((m *ℤ x) +ℤ (n *ℤ y)))
        ≡ (((a *ℤ s) +ℤ (b *ℤ m)) *ℤ x) +ℤ (((a *ℤ t) +ℤ (b *ℤ n)) *ℤ y)
    one a s t b m n x y =
        ring (plus (times (at 0) (plus (times (at 1) (at 6)) (times (at 2) (at 7))))
        (times (at 3) (plus (times (at 4) (at 6)) (times (at 5) (at 7)))))
        (plus (times (plus (times (at 0) (at 1)) (times (at 3) (at 4))) (at 6))
        (times (plus (times (at 0) (at 2)) (times (at 3) (at 5))) (at 7)))
        (vars (a ∷ s ∷ t ∷ b ∷ m ∷ n ∷ x ∷ y ∷ [])) refl

pub way_mix : (p q u v : Vector) (a b : ℤ) → pos 0 ≤ℤ a → pos 0 ≤ℤ b → pos 0 <ℤ (a +ℤ b)
    → IsOnWay p q u → IsOnWay p q v → IsOnWay p q (mix a u b v)
way_mix p q u v a b ha hb some x y =
    let c = product_nonnegative a x.s ha x.s_least in
    let d = product_nonnegative a x.t ha x.t_least in
    let e = product_nonnegative b y.s hb y.s_least in
    let f = product_nonnegative b y.t hb y.t_least in
    let g = weight_at_most a (x.s +ℤ x.t) ha x.some in
    let h = weight_at_most b (y.s +ℤ y.t) hb y.some in
    let i = product-sum a x.s x.t in
    let j = product-sum b y.s y.t in
    record {
      s = (a *ℤ x.s) +ℤ (b *ℤ y.s);
      t = (a *ℤ x.t) +ℤ (b *ℤ y.t);
      s_least = omega (arith, ints, c, e);
      t_least = omega (arith, ints, d, f);
      some = omega (arith, ints, g, h, i, j, some);
      is = ap (λ (w : Vector). mix a w b v) x.is
          ∙ ap (λ (w : Vector). mix a (mix x.s p x.t q) b w) y.is ∙ mix_mix a x.s x.t b y.s y.t p q;
    }

pub way_start : (p q : Vector) → IsOnWay p q p
way_start p q = record {
  s = pos 1;
  t = pos 0;
  s_least = omega (arith, ints);
  t_least = omega (arith, ints);
  some = omega (arith, ints);
  is = vector_eq _ _ (omega (arith, ints)) (omega (arith, ints)) (omega (arith, ints));
}

pub way_end : (p q : Vector) → IsOnWay p q q
way_end p q = record {
  s = pos 0;
  t = pos 1;
  s_least = omega (arith, ints);
  t_least = omega (arith, ints);
  some = omega (arith, ints);
  is = vector_eq _ _ (omega (arith, ints)) (omega (arith, ints)) (omega (arith, ints));
}

pub way_place : (p q z : Vector) → Place p → Place q → IsOnWay p q z → Place z
way_place p q z P Q h =
    subst (λ (v : Vector). Place v) (sym h.is)
    (mix_place h.s p h.t q P Q h.s_least h.t_least h.some)

-- ---- closures
regroup : (c s a t b : ℤ) → c *ℤ ((s *ℤ a) +ℤ (t *ℤ b)) ≡ (s *ℤ (c *ℤ a)) +ℤ (t *ℤ (c *ℤ b))
regroup c s a t b =
    ring (times (at 0) (plus (times (at 1) (at 2)) (times (at 3) (at 4))))
    (plus (times (at 1) (times (at 0) (at 2))) (times (at 3) (times (at 0) (at 4))))
    (vars (c ∷ s ∷ a ∷ t ∷ b ∷ [])) refl

pub closed_mix : (r : Replay) (k : ℕ) (u v : Vector) (s t : ℤ) → pos 0 ≤ℤ s → pos 0 ≤ℤ t
    → IsClosed r k u → IsClosed r k v → IsClosed r k (mix s u t v)
closed_mix r k u v s t hs ht a b = record {
  from = λ (j : ℕ) (l : j < k).
      let m = sweep-mix r.weight s u t v in
      let x = times_le s (reach r j *ℤ u.n) (sweep r.weight u) hs (a.from j l) in
      let y = times_le t (reach r j *ℤ v.n) (sweep r.weight v) ht (b.from j l) in
      let e = regroup (reach r j) s u.n t v.n in
      omega (arith, ints, m, x, y, e);
  to = λ (j : ℕ) (l : k ≤ j) (i : j < r.steps).
      let m = sweep-mix r.weight s u t v in
      let x = times_le s (sweep r.weight u) (reach r j *ℤ u.n) hs (a.to j l i) in
      let y = times_le t (sweep r.weight v) (reach r j *ℤ v.n) ht (b.to j l i) in
      let e = regroup (reach r j) s u.n t v.n in
      omega (arith, ints, m, x, y, e);
}

pub close_mix : (r : Replay) (k : ℕ) (lower upper : List ℕ) (u v : Vector) (s t : ℤ) → pos 0 ≤ℤ s
    → pos 0 ≤ℤ t → IsClose r k lower upper u → IsClose r k lower upper v
    → IsClose r k lower upper (mix s u t v)
close_mix r k lower upper u v s t hs ht a b = record {
  fits = a.fits;
  closed = closed_mix r k u v s t hs ht a.closed b.closed;
  is = a.is;
  beneath = λ e m.
      let x = side-mix (r.edge e) s u t v in
      let y = product_nonnegative s (side (r.edge e) u) hs (a.beneath e m) in
      let w = product_nonnegative t (side (r.edge e) v) ht (b.beneath e m) in
      omega (arith, ints, x, y, w);
  over = λ e m.
      let x = side-mix (r.edge e) s u t v in
      let y = times_le s (side (r.edge e) u) (pos 0) hs (a.over e m) in
      let w = times_le t (side (r.edge e) v) (pos 0) ht (b.over e m) in
      let i : s *ℤ pos 0 ≡ pos 0 = omega (arith, ints) in
      let j : t *ℤ pos 0 ≡ pos 0 = omega (arith, ints) in
      omega (arith, ints, x, y, w, i, j);
}

abbrev tail : List ℕ → List ℕ
tail [] = []
tail (x ∷ xs) = xs

abbrev head : List ℕ → ℕ
head [] = 0
head (x ∷ xs) = x

-- the shorter front of a list is a part of the longer one
pub front_in : (xs ys zs ws : List ℕ) → xs ++ ys ≡ zs ++ ws → length xs ≤ length zs → (e : ℕ)
    → Has e xs → Has e zs
front_in [] ys zs ws q l e m = absurd m
front_in (x ∷ xs) ys [] ws q l e m = absurd (omega arith)
front_in (x ∷ xs) ys (z ∷ zs) ws q l e (inl h) = inl (h ∙ ap head q)
front_in (x ∷ xs) ys (z ∷ zs) ws q l e (inr m) =
    inr (front_in xs ys zs ws (ap tail q) (omega arith) e m)

pub half_or_twin : (g h : Half) → edge_of g ≡ edge_of h → (h ≡ g) ⊎ (h ≡ twin g)
half_or_twin (under a) (under b) e = inl (ap under (sym e))
half_or_twin (under a) (over b) e = inr (ap over (sym e))
half_or_twin (over a) (under b) e = inr (ap under (sym e))
half_or_twin (over a) (over b) e = inl (ap over (sym e))
