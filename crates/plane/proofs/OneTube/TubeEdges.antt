-- The edges of a tube: inner and outer ones meet only in the ends of the half arc; and the chord
-- over a low inner corner.
use Rattle.std.proofs.Common.{◌≡◌, ℤ, pos, ◌+ℤ◌, ◌*ℤ◌, ◌-ℤ◌, ◌<ℤ◌, ◌≤ℤ◌, ◌⊎◌, inl, inr, List, []}
use Rattle.std.proofs.Common.{◌∷◌, refl, arith, ap, ◌∙◌, subst}
use Rattle.std.proofs.lemmas.Int.{ints, by_lt_z}
use Rattle.plane.specs.declared.kinds.Point.{Point}
use Rattle.plane.specs.Forms.Vectors.{Vector, Place, Same, Between, point, mix}
use Rattle.plane.specs.Lists.{Each, Has}
use Rattle.plane.specs.Forms.Arcs.{HalfArc, power, along, bow, seen}
use Rattle.plane.specs.Tubes.Caps.{Cap, IsCap, InSlab, cap}
use Rattle.plane.specs.Tubes.Bays.{InTriangle, Bay, InBays, InTube, IsTube, RunsInside, RunsOutside}
use Rattle.plane.specs.Tubes.Bays.{IsOuterCorner, InnerChain, OuterChain, OnInner, OnOuter, AtEnds}
use Rattle.plane.specs.Tubes.CapStrips.{InColumn, AtInner}
use Rattle.plane.proofs.Caps.StripWords.{IsCapStrip}
use Rattle.plane.specs.Tubes.Regions.{seen_point, seen_bay, seen_bays}
use Rattle.plane.proofs.Algebra.Laws.{product_positive}
use Rattle.plane.proofs.Algebra.Scaling.{cancel_zero, product_of_zero}
use Rattle.plane.proofs.Linear.Signs.{mix_place}
use Rattle.plane.proofs.Algebra.Ring.{at, num, plus, minus, times, vars, ring}
use Rattle.plane.proofs.Caps.CapOver.{cancel_most}
use Rattle.plane.proofs.Caps.ChordCircle.{chord_inside}
use Rattle.plane.proofs.Caps.CapCorners.{on_straight}
use Rattle.plane.proofs.Caps.CapStrips.{NotOver, found_first, locate, side_at_high, further}
use Rattle.plane.proofs.Caps.CapFences.{under_fences}
use Rattle.plane.proofs.HalfArcs.Misses.{below_same, most_same}
use Rattle.plane.proofs.Caps.Seen.{seen_same, shape_below, shape_most, power_below, power_most}
use Rattle.plane.proofs.Caps.Pictures.{along-from, tube_only}
use Rattle.plane.proofs.OneTube.TubeStrips.{tube_cap, tube_strip}
use Rattle.plane.proofs.OneTube.Chains.{tube_inner, tube_outer, tube_outer_corners}

-- ---- the power of one place
power_below_same : (h : HalfArc) (z m : Vector) → IsCap (cap h) → Place z → Place m → Same z m
    → power h m <ℤ pos 0 → power h z <ℤ pos 0
power_below_same h z m hc hz hm e k =
    power_below h z hc
    (below_same (cap h) (seen h z) (seen h m) hz hm (seen_same h z m e) (shape_below h m hc k))

power_above_same : (h : HalfArc) (z m : Vector) → IsCap (cap h) → Place z → Place m → Same z m
    → pos 0 <ℤ power h m → pos 0 <ℤ power h z
power_above_same h z m hc hz hm e k = by_lt_z (pos 0) (power h z) (λ l. l)
    (λ (l : power h z ≤ℤ pos 0).
    let a = power_most h m hc
    (most_same (cap h) (seen h z) (seen h m) hz hm (seen_same h z m e) (shape_most h z hc l)) in
    absurd (omega (arith, ints, a, k)))

-- a place of a segment is between its ends, or one of them
pub at_end : (z p q : Vector) → Place p → Place q → (b : Between z p q)
    → ((pos 0 <ℤ b.s) × (pos 0 <ℤ b.t)) ⊎ (Same z p ⊎ Same z q)
at_end z p q hp hq b =
    by_lt_z (pos 0) b.s
    (λ (k : pos 0 <ℤ b.s). by_lt_z (pos 0) b.t
    (λ (l : pos 0 <ℤ b.t). inl (k, l))
    (λ (l : b.t ≤ℤ pos 0). inr (inl (first k (let w = b.t_least in omega (arith, ints, l, w))))))
    (λ (k : b.s ≤ℤ pos 0). inr (inr (second (let w = b.s_least in omega (arith, ints, k, w)))))
  where
    cut : (s t zx zn px pn qx qn : ℤ) → pos 0 <ℤ s → t ≡ pos 0
        → zx *ℤ ((s *ℤ pn) +ℤ (t *ℤ qn)) ≡ ((s *ℤ px) +ℤ (t *ℤ qx)) *ℤ zn → zx *ℤ pn ≡ px *ℤ zn
    cut s t zx zn px pn qx qn hs e f =
        let i = ring
        (minus (minus (times (at 2) (plus (times (at 0) (at 5)) (times (at 1) (at 7))))
        (times (plus (times (at 0) (at 4)) (times (at 1) (at 6))) (at 3)))
        (times (at 1) (minus (times (at 2) (at 7)) (times (at 6) (at 3)))))
        (times (at 0) (minus (times (at 2) (at 5)) (times (at 4) (at 3))))
        (vars (s ∷ t ∷ zx ∷ zn ∷ px ∷ pn ∷ qx ∷ qn ∷ [])) refl in
        let j : t *ℤ ((zx *ℤ qn) -ℤ (qx *ℤ zn))
        ≡ pos 0 = ap (λ (v : ℤ). v *ℤ ((zx *ℤ qn) -ℤ (qx *ℤ zn))) e ∙ omega (arith, ints) in
        let k = cancel_zero s ((zx *ℤ pn) -ℤ (px *ℤ zn)) hs (omega (arith, ints, i, j, f)) in
        omega (arith, ints, k)

    swapped : (s t zx zn px pn qx qn : ℤ)
        → zx *ℤ ((s *ℤ pn) +ℤ (t *ℤ qn)) ≡ ((s *ℤ px) +ℤ (t *ℤ qx)) *ℤ zn
        → zx *ℤ ((t *ℤ qn) +ℤ (s *ℤ pn)) ≡ ((t *ℤ qx) +ℤ (s *ℤ px)) *ℤ zn
    swapped s t zx zn px pn qx qn f =
        let a = ring (times (at 2) (plus (times (at 1) (at 7)) (times (at 0) (at 5))))
        (times (at 2) (plus (times (at 0) (at 5)) (times (at 1) (at 7))))
        (vars (s ∷ t ∷ zx ∷ zn ∷ px ∷ pn ∷ qx ∷ qn ∷ [])) refl in
        let b = ring (times (plus (times (at 0) (at 4)) (times (at 1) (at 6))) (at 3))
        (times (plus (times (at 1) (at 6)) (times (at 0) (at 4))) (at 3))
        (vars (s ∷ t ∷ zx ∷ zn ∷ px ∷ pn ∷ qx ∷ qn ∷ [])) refl in
        a ∙ f ∙ b

    first : pos 0 <ℤ b.s → b.t ≡ pos 0 → Same z p
    first k e = record {
      x = cut b.s b.t z.x z.n p.x p.n q.x q.n k e b.is.x;
      y = cut b.s b.t z.y z.n p.y p.n q.y q.n k e b.is.y;
    }

    second : b.s ≡ pos 0 → Same z q
    second e =
        let w = b.some in
        let k : pos 0 <ℤ b.t = omega (arith, ints, e, w) in
        record {
          x = cut b.t b.s z.x z.n q.x q.n p.x p.n k e
              (swapped b.s b.t z.x z.n p.x p.n q.x q.n b.is.x);
          y = cut b.t b.s z.y z.n q.y q.n p.y p.n k e
              (swapped b.s b.t z.y z.n p.y p.n q.y q.n b.is.y);
        }

-- ---- places of the two chains
abbrev InsideOrEnd : HalfArc → Point → Type 0
InsideOrEnd h p = (power h (point p) <ℤ pos 0) ⊎ ((p ≡ h.from) ⊎ (p ≡ h.to))

abbrev OutsideOrEnd : HalfArc → Point → Type 0
OutsideOrEnd h p = (pos 0 <ℤ power h (point p)) ⊎ ((p ≡ h.from) ⊎ (p ≡ h.to))

ends_of : (h : HalfArc) (z : Vector) (p : Point) → Same z (point p) → (p ≡ h.from) ⊎ (p ≡ h.to)
    → AtEnds h z
ends_of h z p e (inl f) = inl (subst (λ (v : Point). Same z (point v)) f e)
ends_of h z p e (inr f) = inr (subst (λ (v : Point). Same z (point v)) f e)

corner_in : (h : HalfArc) (z : Vector) (p : Point) → IsCap (cap h) → Place z → Same z (point p)
    → InsideOrEnd h p → (power h z <ℤ pos 0) ⊎ AtEnds h z
corner_in h z p hc hz e (inl k) =
    inl (power_below_same h z (point p) hc hz (omega (arith, ints)) e k)
corner_in h z p hc hz e (inr k) = inr (ends_of h z p e k)

corner_out : (h : HalfArc) (z : Vector) (p : Point) → IsCap (cap h) → Place z → Same z (point p)
    → OutsideOrEnd h p → (pos 0 <ℤ power h z) ⊎ AtEnds h z
corner_out h z p hc hz e (inl k) =
    inl (power_above_same h z (point p) hc hz (omega (arith, ints)) e k)
corner_out h z p hc hz e (inr k) = inr (ends_of h z p e k)

edge_in : (h : HalfArc) (z : Vector) (p q : Point) → IsCap (cap h) → Place z → RunsInside h p q
    → InsideOrEnd h p → InsideOrEnd h q → Between z (point p) (point q)
    → (power h z <ℤ pos 0) ⊎ AtEnds h z
edge_in h z p q hc hz f a b w =
    let one : pos 0 <ℤ pos 1 = omega (arith, ints) in
    elim (at_end z (point p) (point q) one one w) [
      | inl k ↦ inl
          (power_below_same h z (mix w.s (point p) w.t (point q)) hc hz
          (mix_place w.s (point p) w.t (point q) one one w.s_least w.t_least w.some) w.is
          (f w.s w.t k.0 k.1))
      | inr k ↦ elim k [ inl e ↦ corner_in h z p hc hz e a | inr e ↦ corner_in h z q hc hz e b ]
    ]

edge_out : (h : HalfArc) (z : Vector) (p q : Point) → IsCap (cap h) → Place z → RunsOutside h p q
    → OutsideOrEnd h p → OutsideOrEnd h q → Between z (point p) (point q)
    → (pos 0 <ℤ power h z) ⊎ AtEnds h z
edge_out h z p q hc hz f a b w =
    let one : pos 0 <ℤ pos 1 = omega (arith, ints) in
    elim (at_end z (point p) (point q) one one w) [
      | inl k ↦ inl
          (power_above_same h z (mix w.s (point p) w.t (point q)) hc hz
          (mix_place w.s (point p) w.t (point q) one one w.s_least w.t_least w.some) w.is
          (f w.s w.t k.0 k.1).0)
      | inr k ↦ elim k [ inl e ↦ corner_out h z p hc hz e a | inr e ↦ corner_out h z q hc hz e b ]
    ]

inside_to : (h : HalfArc) (v : Point) → (power h (point v) <ℤ pos 0) ⊎ (v ≡ h.to) → InsideOrEnd h v
inside_to h v (inl k) = inl k
inside_to h v (inr e) = inr (inr e)

inner_in : (h : HalfArc) (z : Vector) (p : Point) (bs : List Bay) → IsCap (cap h) → Place z
    → InnerChain (RunsInside h) p bs
    → Each (λ b. (power h (point b.inner) <ℤ pos 0) ⊎ (b.inner ≡ h.to)) bs → InsideOrEnd h p
    → OnInner z p bs → (power h z <ℤ pos 0) ⊎ AtEnds h z
inner_in h z p [] hc hz c e a k = absurd k
inner_in h z p (b ∷ rest) hc hz c e a (inl k) =
    edge_in h z p b.inner hc hz c.0 a (inside_to h b.inner e.0) k
inner_in h z p (b ∷ rest) hc hz c e a (inr k) =
    inner_in h z b.inner rest hc hz c.1 e.1 (inside_to h b.inner e.0) k

outer_out : (h : HalfArc) (z : Vector) (q : Point) (bs : List Bay) → IsCap (cap h) → Place z
    → OuterChain (RunsOutside h) q h.to bs → Each (IsOuterCorner h) bs → OutsideOrEnd h q
    → OnOuter z q h.to bs → (pos 0 <ℤ power h z) ⊎ AtEnds h z
outer_out h z q [] hc hz c e a k = edge_out h z q h.to hc hz c a (inr (inr refl)) k
outer_out h z q (b ∷ rest) hc hz c e a (inl k) = edge_out h z q b.outer hc hz c.0 a (inl e.0.0) k
outer_out h z q (b ∷ rest) hc hz c e a (inr k) =
    outer_out h z b.outer rest hc hz c.1 e.1 (inl e.0.0) k

pub inner_place : (h : HalfArc) (bs : List Bay) (z : Vector) → IsTube h bs → Place z
    → OnInner z h.from bs → (power h z <ℤ pos 0) ⊎ AtEnds h z
inner_place h bs z t hz k =
    inner_in h z h.from bs (tube_cap h bs t) hz (tube_inner h bs t) t.inside (inr (inl refl)) k

pub outer_place : (h : HalfArc) (bs : List Bay) (z : Vector) → IsTube h bs → Place z
    → OnOuter z h.from h.to bs → (pos 0 <ℤ power h z) ⊎ AtEnds h z
outer_place h bs z t hz k =
    outer_out h z h.from bs (tube_cap h bs t) hz (tube_outer h bs t) (tube_outer_corners h bs t)
    (inr (inl refl)) k

pub inner_outer_meet : (h : HalfArc) (bs : List Bay) (z : Vector) → IsTube h bs → Place z
    → OnInner z h.from bs → OnOuter z h.from h.to bs → AtEnds h z
inner_outer_meet h bs z t hz i o = meet (inner_place h bs z t hz i) (outer_place h bs z t hz o)
  where
    meet : (power h z <ℤ pos 0) ⊎ AtEnds h z → (pos 0 <ℤ power h z) ⊎ AtEnds h z → AtEnds h z
    meet (inl a) (inl b) = absurd (omega (arith, ints, a, b))
    meet (inl a) (inr e) = e
    meet (inr e) k = e

-- ---- the chord over an inner corner that is not over it
low_corner : (c : Cap) (z : Vector) (q p : Point) (bs : List Bay) (b : Bay) → Place z
    → IsCapStrip c q p bs → AtInner NotOver z p bs → Has b bs → z.x ≡ b.inner.x *ℤ z.n
    → (b.inner.y *ℤ z.n) ≤ℤ z.y → InBays p bs z
low_corner c z q p [] b hz h a k e l = absurd k
low_corner c z q p (d ∷ rest) b hz h a (inr k) e l =
    inr (low_corner c z d.outer d.inner rest b hz h.4 a.1 k e l)
low_corner c z q p (d ∷ rest) b hz h a (inl k) e l =
    inl (here (subst (λ (v : Bay). z.x ≡ v.inner.x *ℤ z.n) k e)
    (subst (λ (v : Bay). (v.inner.y *ℤ z.n) ≤ℤ z.y) k l))
  where
    here : z.x ≡ d.inner.x *ℤ z.n → (d.inner.y *ℤ z.n) ≤ℤ z.y
        → InTriangle z (point p) (point d.inner) (point d.outer)
    here e l =
        let up = h.0.up in let on = h.0.on in
        let wide : p.x <ℤ d.inner.x = omega (arith, ints, up, on) in
        let m = further p.x d.inner.x z.n hz wide in
        let col : InColumn p d.inner z = record {
          low = omega (arith, ints, e, m);
          high = omega (arith, ints, e);
        } in
        let s = a.0 col in
        let f = side_at_high p d.inner z e in
        let y = cancel_most (d.inner.x -ℤ p.x) (z.y -ℤ (d.inner.y *ℤ z.n))
        (omega (arith, ints, wide)) (omega (arith, ints, f, s)) in
        let g = product_of_zero (d.inner.x -ℤ p.x) (z.y -ℤ (d.inner.y *ℤ z.n))
        (omega (arith, ints, y, l)) in
        on_straight p d.inner d.outer z hz wide col (omega (arith, ints, f, g))

-- a place of the chord straight over an inner corner that is not over the chord is in the tube
has_seen : (h : HalfArc) (b : Bay) (bs : List Bay) → Has b bs → Has (seen_bay h b) (seen_bays h bs)
has_seen h b [] k = absurd k
has_seen h b (d ∷ rest) (inl e) = inl (ap (λ (v : Bay). seen_bay h v) e)
has_seen h b (d ∷ rest) (inr k) = inr (has_seen h b rest k)

pub chord_in_tube : (h : HalfArc) (bs : List Bay) (b : Bay) (z : Vector) → IsTube h bs → Place z
    → Has b bs → bow h z ≡ pos 0 → InSlab (cap h) (seen h z)
    → along h z ≡ along h (point b.inner) *ℤ z.n → bow h (point b.inner) ≤ℤ pos 0
    → InTube h.from bs z
chord_in_tube h [] b z t hz k on slab e low = absurd k
chord_in_tube h (d ∷ rest) b z t hz k on slab e low =
    let bs = d ∷ rest in
    let hc = tube_cap h bs t in
    let p = seen_point h h.from in
    let s = tube_strip h d rest t in
    let y : pos 0 ≤ℤ bow h z = omega (arith, ints, on) in
    let u = under_fences (cap h) (seen h z) p p (seen_bays h bs) hc hz s y
    (chord_inside (cap h) (seen h z) hc slab on) in
    let l = slab.low in
    let f = ap (λ (x : ℤ). x *ℤ z.n) (along-from h) in
    let w = not_positive (bow h (point b.inner)) z.n hz low in
    tube_only h h.from bs z hc
    (elim (locate (cap h) (seen h z) p p (seen_bays h bs) hz s
    (omega (arith, ints, f, l)) slab.high u) [
      | inl g ↦ found_first (seen h z) p (seen_bays h bs) g
      | inr g ↦ inl
          (low_corner (cap h) (seen h z) p p (seen_bays h bs) (seen_bay h b) hz s g
          (has_seen h b bs k) e (omega (arith, ints, w, y)))
    ])
  where
    not_positive : (a n : ℤ) → pos 0 <ℤ n → a ≤ℤ pos 0 → (a *ℤ n) ≤ℤ pos 0
    not_positive a n hn l = by_lt_z a (pos 0)
        (λ (m : a <ℤ pos 0). let q = product_positive (pos 0 -ℤ a) n (omega (arith, ints, m)) hn in
        let i = ring (times (minus (num (pos 0)) (at 0)) (at 1))
        (minus (num (pos 0)) (times (at 0) (at 1))) (vars (a ∷ n ∷ [])) refl in
        omega (arith, ints, q, i))
        (λ (m : pos 0 ≤ℤ a). let z : a ≡ pos 0 = omega (arith, ints, l, m) in
        let q = ap (λ (v : ℤ). v *ℤ n) z in omega (arith, ints, q))
