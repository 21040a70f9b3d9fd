-- A segment with one end not over the inner chain and the other not under it has a place on it.
use Rattle.std.proofs.Common.{◌≡◌, ℤ, pos, ◌+ℤ◌, ◌*ℤ◌, ◌-ℤ◌, ◌<ℤ◌, ◌≤ℤ◌, ◌⊎◌, inl, inr, List, []}
use Rattle.std.proofs.Common.{◌∷◌, refl, arith, ap, ◌∙◌, subst}
use Rattle.std.proofs.lemmas.Int.{ints, by_lt_z}
use Rattle.plane.specs.declared.kinds.Point.{Point}
use Rattle.plane.specs.Forms.Vectors.{Vector, Place, mix, Edge, side}
use Rattle.plane.specs.Tubes.Caps.{Cap}
use Rattle.plane.specs.Tubes.Bays.{Bay, InBays}
use Rattle.plane.specs.Tubes.CapStrips.{line, InColumn, AtInner}
use Rattle.plane.proofs.Caps.StripWords.{IsArch, IsCapStrip}
use Rattle.plane.proofs.Algebra.Laws.{product_positive, product_nonnegative, weight_at_most}
use Rattle.plane.proofs.Algebra.Laws.{product-sum}
use Rattle.plane.proofs.Algebra.Scaling.{product-difference}
use Rattle.plane.proofs.Linear.Signs.{mix_place, span_low, span_high}
use Rattle.plane.proofs.Linear.Vectors.{side-mix}
use Rattle.plane.proofs.Caps.CapOver.{cancel_most, cancel_least, times_most}
use Rattle.plane.proofs.Algebra.Ring.{at, num, plus, minus, times, vars, ring}
use Rattle.plane.proofs.Caps.CapStrips.{side_at_low, side_at_high, further, inner_left}
use Rattle.plane.proofs.Caps.CapCorners.{on_straight}
use Rattle.plane.proofs.Linear.Clear.{vector_eq, mix_start}

-- the side of an edge, or its opposite
pub record IsTilt (R : Edge → Vector → ℤ) : Type 0 where
  pub linear : (e : Edge) (s : ℤ) (p : Vector) (t : ℤ) (q : Vector)
      → R e (mix s p t q) ≡ (s *ℤ R e p) +ℤ (t *ℤ R e q)
  pub zero : (e : Edge) (z : Vector) → R e z ≡ pos 0 → side e z ≡ pos 0
  pub corner : (p v w : Point) (z : Vector) → p.x <ℤ v.x → v.x <ℤ w.x → z.x ≡ v.x *ℤ z.n
      → R (line p v) z ≤ℤ pos 0 → R (line v w) z ≤ℤ pos 0

abbrev pub Most : (Edge → Vector → ℤ) → Edge → Vector → Type 0
Most R e z = R e z ≤ℤ pos 0

abbrev pub Least : (Edge → Vector → ℤ) → Edge → Vector → Type 0
Least R e z = pos 0 ≤ℤ R e z

-- a mix of a and z that is in one of the triangles over the inner chain
pub record Meets (p : Point) (bs : List Bay) (a z : Vector) : Type 0 where
  pub s : ℤ
  pub t : ℤ
  pub s_least : pos 0 ≤ℤ s
  pub t_least : pos 0 ≤ℤ t
  pub some : pos 0 <ℤ (s +ℤ t)
  pub there : InBays p bs (mix s a t z)

mix_end : (a b s t : ℤ) (p q : Vector) → mix a (mix s p t q) b q ≡ mix (a *ℤ s) p ((a *ℤ t) +ℤ b) q
mix_end a b s t p q =
    vector_eq _ _ (one a b s t p.x q.x) (one a b s t p.y q.y) (one a b s t p.n q.n)
  where
    one : (a b s t x y : ℤ)
        → (a *ℤ ((s *ℤ x) +ℤ (t *ℤ y))) +ℤ (b *ℤ y) ≡ ((a *ℤ s) *ℤ x) +ℤ (((a *ℤ t) +ℤ b) *ℤ y)
    one a b s t x y =
        ring (plus (times (at 0) (plus (times (at 2) (at 4)) (times (at 3) (at 5))))
        (times (at 1) (at 5)))
        (plus (times (times (at 0) (at 2)) (at 4))
        (times (plus (times (at 0) (at 3)) (at 1)) (at 5)))
        (vars (a ∷ b ∷ s ∷ t ∷ x ∷ y ∷ [])) refl

-- the first part of a segment, and the last
meets_start : (p : Point) (bs : List Bay) (a z : Vector) (s t : ℤ) → pos 0 ≤ℤ s → pos 0 ≤ℤ t
    → pos 0 <ℤ (s +ℤ t) → Meets p bs a (mix s a t z) → Meets p bs a z
meets_start p bs a z s t hs ht some m =
    let u = product_nonnegative m.t s m.t_least hs in
    let v = product_nonnegative m.t t m.t_least ht in
    let w = weight_at_most m.t (s +ℤ t) m.t_least some in
    let d = product-sum m.t s t in
    let l = m.s_least in
    let k = m.some in
    record {
      s = m.s +ℤ (m.t *ℤ s);
      t = m.t *ℤ t;
      s_least = omega (arith, ints, u, l);
      t_least = v;
      some = omega (arith, ints, w, d, k);
      there = subst (λ (y : Vector). InBays p bs y) (mix_start m.s m.t s t a z) m.there;
    }

meets_end : (p : Point) (bs : List Bay) (a z : Vector) (s t : ℤ) → pos 0 ≤ℤ s → pos 0 ≤ℤ t
    → pos 0 <ℤ (s +ℤ t) → Meets p bs (mix s a t z) z → Meets p bs a z
meets_end p bs a z s t hs ht some m =
    let u = product_nonnegative m.s s m.s_least hs in
    let v = product_nonnegative m.s t m.s_least ht in
    let w = weight_at_most m.s (s +ℤ t) m.s_least some in
    let d = product-sum m.s s t in
    let l = m.t_least in
    let k = m.some in
    record {
      s = m.s *ℤ s;
      t = (m.s *ℤ t) +ℤ m.t;
      s_least = u;
      t_least = omega (arith, ints, v, l);
      some = omega (arith, ints, w, d, k);
      there = subst (λ (y : Vector). InBays p bs y) (mix_end m.s m.t s t a z) m.there;
    }

-- ---- within one column
pub column_mix : (p q : Point) (s : ℤ) (a : Vector) (t : ℤ) (z : Vector) → pos 0 ≤ℤ s → pos 0 ≤ℤ t
    → InColumn p q a → InColumn p q z → InColumn p q (mix s a t z)
column_mix p q s a t z hs ht ka kz = record {
  low = span_low p.x s t a.x a.n z.x z.n hs ht ka.low kz.low;
  high = span_high q.x s t a.x a.n z.x z.n hs ht ka.high kz.high;
}

meets_here : (R : Edge → Vector → ℤ) (p : Point) (b : Bay) (rest : List Bay) (a z : Vector)
    → IsTilt R → Place a → Place z → p.x <ℤ b.inner.x → InColumn p b.inner a → InColumn p b.inner z
    → R (line p b.inner) a ≤ℤ pos 0 → pos 0 ≤ℤ R (line p b.inner) z → Meets p (b ∷ rest) a z
meets_here R p b rest a z r ha hz h ka kz low high =
    by_lt_z (pos 0) (y -ℤ x)
    (λ (k : pos 0 <ℤ (y -ℤ x)). at_weights y (pos 0 -ℤ x) high (omega (arith, ints, low))
    (omega (arith, ints, k)) (balance x y))
    (λ (k : (y -ℤ x) ≤ℤ pos 0). at_weights (pos 1) (pos 0) (omega (arith, ints))
    (omega (arith, ints)) (omega (arith, ints)) (alone x y (omega (arith, ints, k, low, high))))
  where
    x : ℤ
    x = R (line p b.inner) a

    y : ℤ
    y = R (line p b.inner) z

    balance : (x y : ℤ) → (y *ℤ x) +ℤ ((pos 0 -ℤ x) *ℤ y) ≡ pos 0
    balance x y =
        ring (plus (times (at 1) (at 0)) (times (minus (num (pos 0)) (at 0)) (at 1))) (num (pos 0))
        (vars (x ∷ y ∷ [])) refl

    alone : (x y : ℤ) → x ≡ pos 0 → (pos 1 *ℤ x) +ℤ (pos 0 *ℤ y) ≡ pos 0
    alone x y e =
        ring (plus (times (num (pos 1)) (at 0)) (times (num (pos 0)) (at 1))) (at 0)
        (vars (x ∷ y ∷ [])) refl ∙ e

    at_weights : (s t : ℤ) → pos 0 ≤ℤ s → pos 0 ≤ℤ t → pos 0 <ℤ (s +ℤ t)
        → (s *ℤ R (line p b.inner) a) +ℤ (t *ℤ R (line p b.inner) z) ≡ pos 0
        → Meets p (b ∷ rest) a z
    at_weights s t hs ht some e = record {
      s = s;
      t = t;
      s_least = hs;
      t_least = ht;
      some = some;
      there = inl (on_straight p b.inner b.outer (mix s a t z)
          (mix_place s a t z ha hz hs ht some) h (column_mix p b.inner s a t z hs ht ka kz)
          (r.zero (line p b.inner) (mix s a t z) (r.linear (line p b.inner) s a t z ∙ e)));
    }

-- ---- the walk, from a on the left to z on the right
most_rest : (R : Edge → Vector → ℤ) (c : Cap) (p : Point) (b : Bay) (rest : List Bay) (a : Vector)
    → IsTilt R → Place a → IsArch p b → IsCapStrip c b.outer b.inner rest
    → a.x ≡ b.inner.x *ℤ a.n → R (line p b.inner) a ≤ℤ pos 0 → AtInner (Most R) a b.inner rest
most_rest R c p b [] a r ha h g e k = tt
most_rest R c p b (d ∷ rest) a r ha h g e k =
    let up = h.up in let on = h.on in let out = g.0.up in let out_on = g.0.on in
    let m = further b.inner.x d.outer.x a.n ha out in
    let n = further d.outer.x d.inner.x a.n ha out_on in (
      (λ l. r.corner p b.inner d.inner a (omega (arith, ints, up, on))
          (omega (arith, ints, out, out_on)) e k),
      inner_left (Most R) c a d.outer d.inner rest ha g.4 (omega (arith, ints, e, m, n)),
    )

abbrev pub NotRight : Vector → Vector → Type 0
NotRight a z = (a.x *ℤ z.n) ≤ℤ (z.x *ℤ a.n)

-- the place of the segment from a to z over the corner v
pub wall_x : (v : ℤ) (a z : Vector)
    → (((z.x -ℤ (v *ℤ z.n)) *ℤ a.x) +ℤ (((v *ℤ a.n) -ℤ a.x) *ℤ z.x))
    ≡ v *ℤ (((z.x -ℤ (v *ℤ z.n)) *ℤ a.n) +ℤ (((v *ℤ a.n) -ℤ a.x) *ℤ z.n))
wall_x v a z =
    let s = minus (at 3) (times (at 0) (at 4)) in
    let t = minus (times (at 0) (at 2)) (at 1) in
    ring (plus (times s (at 1)) (times t (at 3)))
    (times (at 0) (plus (times s (at 2)) (times t (at 4))))
    (vars (v ∷ a.x ∷ a.n ∷ z.x ∷ z.n ∷ [])) refl

-- a place at v, left of z
pub wall_left : (v : ℤ) (a z : Vector) → Place a → a.x ≡ v *ℤ a.n → (v *ℤ z.n) <ℤ z.x → NotRight a z
wall_left v a z ha e l =
    let p = product_nonnegative a.n (z.x -ℤ (v *ℤ z.n)) (omega (arith, ints, ha))
    (omega (arith, ints, l)) in
    let i = ring (times (at 1) (minus (at 2) (times (at 0) (at 3))))
    (minus (times (at 2) (at 1)) (times (times (at 0) (at 1)) (at 3)))
    (vars (v ∷ a.n ∷ z.x ∷ z.n ∷ [])) refl in
    let k = ap (λ (x : ℤ). x *ℤ z.n) e in
    omega (arith, ints, p, i, k)

pub not_right_low : (p : ℤ) (a z : Vector) → Place a → Place z → NotRight a z → (p *ℤ a.n) ≤ℤ a.x
    → (p *ℤ z.n) ≤ℤ z.x
not_right_low p a z ha hz h l =
    let u = product_nonnegative z.n (a.x -ℤ (p *ℤ a.n)) (omega (arith, ints, hz))
    (omega (arith, ints, l)) in
    let i = ring
    (plus (times (at 4) (minus (at 1) (times (at 0) (at 2))))
    (minus (times (at 3) (at 2)) (times (at 1) (at 4))))
    (times (at 2) (minus (at 3) (times (at 0) (at 4))))
    (vars (p ∷ a.x ∷ a.n ∷ z.x ∷ z.n ∷ [])) refl in
    let k = scale_least a.n (z.x -ℤ (p *ℤ z.n)) ha (omega (arith, ints, u, i, h)) in
    omega (arith, ints, k)
  where
    scale_least : (m x : ℤ) → pos 0 <ℤ m → pos 0 ≤ℤ (m *ℤ x) → pos 0 ≤ℤ x
    scale_least m x h k = by_lt_z x (pos 0)
        (λ (l : x <ℤ pos 0). let w = product_positive m (pos 0 -ℤ x) h (omega (arith, ints, l)) in
        let e = product-difference m (pos 0) x in absurd (omega (arith, ints, w, e, k)))
        (λ l. l)

-- what is still to be walked holds z or a
abbrev Onward : Point → Vector → Vector → Type 0
Onward p a z = ((p.x *ℤ a.n) <ℤ a.x) ⊎ ((p.x *ℤ z.n) <ℤ z.x)

abbrev Later : (Edge → Vector → ℤ) → Cap → Bay → List Bay → Vector → Type 0
Later R c b rest z = (a : Vector) → Place a → (b.inner.x *ℤ a.n) ≤ℤ a.x → a.x ≤ℤ (c.chord *ℤ a.n)
    → NotRight a z → AtInner (Most R) a b.inner rest → Onward b.inner a z → Meets b.inner rest a z

meets_later : (p : Point) (b : Bay) (rest : List Bay) (a z : Vector) → Meets b.inner rest a z
    → Meets p (b ∷ rest) a z
meets_later p b rest a z m = record {
  s = m.s;
  t = m.t;
  s_least = m.s_least;
  t_least = m.t_least;
  some = m.some;
  there = inr m.there;
}

crosses_at : (R : Edge → Vector → ℤ) (c : Cap) (q p : Point) (b : Bay) (rest : List Bay)
    (a z : Vector)
    → IsTilt R → Place a → Place z → IsCapStrip c q p (b ∷ rest)
    → (p.x *ℤ a.n) ≤ℤ a.x → a.x ≤ℤ (c.chord *ℤ a.n) → z.x ≤ℤ (c.chord *ℤ z.n) → NotRight a z
    → AtInner (Most R) a p (b ∷ rest) → AtInner (Least R) z p (b ∷ rest) → b.inner.x ≤ℤ c.chord
    → Later R c b rest z
    → Meets p (b ∷ rest) a z
crosses_at R c q p b rest a z r ha hz h l ra rz nr most least bound later =
    by_lt_z (b.inner.x *ℤ a.n) a.x
    (λ (k : (b.inner.x *ℤ a.n) <ℤ a.x). meets_later p b rest a z
    (later a ha (omega (arith, ints, k)) ra nr most.1 (inl k)))
    (λ (k : a.x ≤ℤ (b.inner.x *ℤ a.n)).
    by_lt_z (b.inner.x *ℤ z.n) z.x
    (λ (m : (b.inner.x *ℤ z.n) <ℤ z.x). wall k m)
    (λ (m : z.x ≤ℤ (b.inner.x *ℤ z.n)). meets_here R p b rest a z r ha hz wide record {
      low = l;
      high = k;
    } record {
      low = z_low;
      high = m;
    } (most.0 record { low = l; high = k }) (least.0 record {
      low = z_low;
      high = m;
    })))
  where
    wide : p.x <ℤ b.inner.x
    wide = let u = h.0.up in let v = h.0.on in omega (arith, ints, u, v)

    z_low : (p.x *ℤ z.n) ≤ℤ z.x
    z_low = not_right_low p.x a z ha hz nr l

    wall : a.x ≤ℤ (b.inner.x *ℤ a.n) → (b.inner.x *ℤ z.n) <ℤ z.x → Meets p (b ∷ rest) a z
    wall k m =
        let s = z.x -ℤ (b.inner.x *ℤ z.n) in
        let t = (b.inner.x *ℤ a.n) -ℤ a.x in
        let hs : pos 0 ≤ℤ s = omega (arith, ints, m) in
        let ht : pos 0 ≤ℤ t = omega (arith, ints, k) in
        let some : pos 0 <ℤ (s +ℤ t) = omega (arith, ints, m, k) in
        let o = mix s a t z in
        let ho = mix_place s a t z ha hz hs ht some in
        let e = wall_x b.inner.x a z in
        let left = wall_left b.inner.x o z ho e m in
        let w = further p.x b.inner.x o.n ho wide in
        let col : InColumn p b.inner o = record {
          low = low_of _ _ _ e w;
          high = equal_most _ _ e;
        } in
        by_lt_z (R (line p b.inner) o) (pos 0)
        (λ (n : R (line p b.inner) o <ℤ pos 0).
        let n0 : R (line p b.inner) o ≤ℤ pos 0 = omega (arith, ints, n) in
        meets_end p (b ∷ rest) a z s t hs ht some
        (meets_later p b rest o z
        (later o ho (equal_least _ _ e) (bounded o ho e) left
        (most_rest R c p b rest o r ho h.0 h.4 e n0) (inr m))))
        (λ (n : pos 0 ≤ℤ R (line p b.inner) o).
        meets_start p (b ∷ rest) a z s t hs ht some
        (meets_here R p b rest a o r ha ho wide record {
          low = l;
          high = k;
        } col (most.0 record { low = l; high = k }) n))
      where
        equal_most : (x y : ℤ) → x ≡ y → x ≤ℤ y
        equal_most x y e = omega (arith, ints)

        equal_least : (x y : ℤ) → x ≡ y → y ≤ℤ x
        equal_least x y e = omega (arith, ints)

        low_of : (x y u : ℤ) → x ≡ y → u <ℤ y → u ≤ℤ x
        low_of x y u e h = omega (arith, ints)

        bounded : (o : Vector) → Place o → o.x ≡ b.inner.x *ℤ o.n → o.x ≤ℤ (c.chord *ℤ o.n)
        bounded o ho e =
            let p = product_nonnegative o.n (c.chord -ℤ b.inner.x) (omega (arith, ints, ho))
            (omega (arith, ints, bound)) in
            let i = ring (times (at 0) (minus (at 1) (at 2)))
            (minus (times (at 1) (at 0)) (times (at 2) (at 0)))
            (vars (o.n ∷ c.chord ∷ b.inner.x ∷ [])) refl in
            omega (arith, ints, p, i, e)

-- the strip ends at the end of the chord
pub strip_bound : (c : Cap) (q p : Point) (bs : List Bay) → IsCapStrip c q p bs → p.x ≤ℤ c.chord
strip_bound c q p [] h = let e = h.0 in omega (arith, ints, e)
strip_bound c q p (b ∷ rest) h =
    let k = strip_bound c b.outer b.inner rest h.4 in
    let u = h.0.up in let v = h.0.on in omega (arith, ints, k, u, v)

pub crosses : (R : Edge → Vector → ℤ) (c : Cap) (q p : Point) (b : Bay) (rest : List Bay)
    (a z : Vector)
    → IsTilt R → Place a → Place z → IsCapStrip c q p (b ∷ rest)
    → (p.x *ℤ a.n) ≤ℤ a.x → a.x ≤ℤ (c.chord *ℤ a.n) → z.x ≤ℤ (c.chord *ℤ z.n) → NotRight a z
    → AtInner (Most R) a p (b ∷ rest) → AtInner (Least R) z p (b ∷ rest)
    → Meets p (b ∷ rest) a z
crosses R c q p b [] a z r ha hz h l ra rz nr most least =
    crosses_at R c q p b [] a z r ha hz h l ra rz nr most least
    (strip_bound c b.outer b.inner [] h.4)
    (λ o ho ol or_ onr omost w. absurd (ended o or_ w))
  where
    ended : (o : Vector) → o.x ≤ℤ (c.chord *ℤ o.n) → Onward b.inner o z → ⊥
    ended o k (inl m) = let e = ap (λ (x : ℤ). x *ℤ o.n) h.4.0 in omega (arith, ints, e, k, m)
    ended o k (inr m) = let e = ap (λ (x : ℤ). x *ℤ z.n) h.4.0 in omega (arith, ints, e, rz, m)
crosses R c q p b (d ∷ rest) a z r ha hz h l ra rz nr most least =
    crosses_at R c q p b (d ∷ rest) a z r ha hz h l ra rz nr most least
    (strip_bound c b.outer b.inner (d ∷ rest) h.4)
    (λ o ho ol or_ onr omost w. crosses R c b.outer b.inner d rest o z r ho hz h.4 ol or_ rz onr
    omost least.1)

-- ---- the two tilts
pub side_tilt : IsTilt side
side_tilt = record {
  linear = side-mix;
  zero = λ e z h. h;
  corner = λ p v w z h k e m.
      let a = side_at_high p v z e in
      let b = side_at_low v w z e in
      let y = cancel_most (v.x -ℤ p.x) (z.y -ℤ (v.y *ℤ z.n)) (omega (arith, ints, h))
      (omega (arith, ints, a, m)) in
      let u = times_most (w.x -ℤ v.x) (z.y -ℤ (v.y *ℤ z.n)) (omega (arith, ints, k)) y in
      omega (arith, ints, b, u);
}

abbrev pub under_side : Edge → Vector → ℤ
under_side e z = pos 0 -ℤ side e z

pub under_tilt : IsTilt under_side
under_tilt = record {
  linear = λ e s p t q. opposite (side e (mix s p t q)) s t (side e p) (side e q)
      (side-mix e s p t q);
  zero = λ e z h. omega (arith, ints, h);
  corner = λ p v w z h k e m.
      let a = side_at_high p v z e in
      let b = side_at_low v w z e in
      let y = cancel_least (v.x -ℤ p.x) (z.y -ℤ (v.y *ℤ z.n)) (omega (arith, ints, h))
      (omega (arith, ints, a, m)) in
      let u = product_nonnegative (w.x -ℤ v.x) (z.y -ℤ (v.y *ℤ z.n)) (omega (arith, ints, k)) y in
      omega (arith, ints, b, u);
}
  where
    opposite : (m s t x y : ℤ) → m ≡ (s *ℤ x) +ℤ (t *ℤ y)
        → pos 0 -ℤ m ≡ (s *ℤ (pos 0 -ℤ x)) +ℤ (t *ℤ (pos 0 -ℤ y))
    opposite m s t x y e =
        let i = ring
        (plus (times (at 0) (minus (num (pos 0)) (at 2)))
        (times (at 1) (minus (num (pos 0)) (at 3))))
        (minus (num (pos 0)) (plus (times (at 0) (at 2)) (times (at 1) (at 3))))
        (vars (s ∷ t ∷ x ∷ y ∷ [])) refl in
        omega (arith, ints, e, i)
