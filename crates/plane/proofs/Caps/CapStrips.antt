-- A place under the outer chain is in the strip or under the inner chain.
use Rattle.std.proofs.Common.{◌≡◌, ℤ, pos, ◌+ℤ◌, ◌*ℤ◌, ◌-ℤ◌, ◌<ℤ◌, ◌≤ℤ◌, ◌⊎◌, inl, inr, List, []}
use Rattle.std.proofs.Common.{◌∷◌, refl, arith, ap, ◌∙◌, subst, sym}
use Rattle.std.proofs.lemmas.Int.{ints, by_lt_z}
use Rattle.plane.specs.declared.kinds.Point.{Point}
use Rattle.plane.specs.Forms.Vectors.{Vector, Place, point, Edge, side}
use Rattle.plane.specs.Tubes.Caps.{Cap}
use Rattle.plane.specs.Tubes.Bays.{InTriangle, Bay, InGaps, InTube}
use Rattle.plane.specs.Tubes.CapStrips.{line, InColumn, IsUnder, AtInner}
use Rattle.plane.proofs.Caps.StripWords.{IsArch, IsDip, IsCapStrip}
use Rattle.plane.proofs.Algebra.Laws.{sum-product, zero-product}
use Rattle.plane.proofs.Algebra.Scaling.{times_lt, product_of_zero}
use Rattle.plane.proofs.Caps.CapOver.{times_most, cancel_most}
use Rattle.plane.proofs.Algebra.Ring.{at, minus, times, vars, ring}
use Rattle.plane.proofs.Caps.CapCorners.{SIDE, triangle_up, triangle_down, left_up, right_up}
use Rattle.plane.proofs.Caps.CapCorners.{left_down, right_down}

-- ---- at a corner
-- straight over or under the low end of a straight, the side is that height
pub side_at_low : (p q : Point) (z : Vector) → z.x ≡ p.x *ℤ z.n
    → side (line p q) z ≡ (q.x -ℤ p.x) *ℤ (z.y -ℤ (p.y *ℤ z.n))
unfolding side
side_at_low p q z e =
    let k = product_of_zero (q.y -ℤ p.y) (z.x -ℤ (p.x *ℤ z.n)) (omega (arith, ints, e)) in
    omega (arith, ints, k)

pub side_at_high : (p q : Point) (z : Vector) → z.x ≡ q.x *ℤ z.n
    → side (line p q) z ≡ (q.x -ℤ p.x) *ℤ (z.y -ℤ (q.y *ℤ z.n))
unfolding side
side_at_high p q z e =
    let k = product_of_zero (q.y -ℤ p.y) (z.x -ℤ (q.x *ℤ z.n)) (omega (arith, ints, e)) in
    let i = ring (SIDE (at 0) (at 1) (at 2) (at 3) (at 4) (at 5) (at 6))
    (minus (times (minus (at 2) (at 0)) (minus (at 5) (times (at 3) (at 6))))
    (times (minus (at 3) (at 1)) (minus (at 4) (times (at 2) (at 6)))))
    (vars (p.x ∷ p.y ∷ q.x ∷ q.y ∷ z.x ∷ z.y ∷ z.n ∷ [])) refl in
    omega (arith, ints, k, i)

-- a sweep line further right is further right at each place
pub further : (a b n : ℤ) → pos 0 <ℤ n → a <ℤ b → (a *ℤ n) <ℤ (b *ℤ n)
further a b n h k =
    let p = times_lt n a b h k in
    let e = ring (times (at 0) (at 2)) (times (at 2) (at 0)) (vars (a ∷ b ∷ n ∷ [])) refl in
    let f = ring (times (at 1) (at 2)) (times (at 2) (at 1)) (vars (a ∷ b ∷ n ∷ [])) refl in
    omega (arith, ints, p, e, f)

abbrev pub NotOver : Edge → Vector → Type 0
NotOver e z = side e z ≤ℤ pos 0

-- left of p, no later straight of the inner chain is met
pub inner_left : (R : Edge → Vector → Type 0) (c : Cap) (z : Vector) (q p : Point) (bs : List Bay)
    → Place z → IsCapStrip c q p bs → z.x <ℤ (p.x *ℤ z.n) → AtInner R z p bs
inner_left R c z q p [] hz h l = tt
inner_left R c z q p (b ∷ rest) hz h l =
    let m = further p.x b.outer.x z.n hz h.0.up in
    let n = further b.outer.x b.inner.x z.n hz h.0.on in (
      (λ k. absurd (let k_low = k.low in omega (arith, ints, k_low, l))),
      inner_left R c z b.outer b.inner rest hz h.4 (omega (arith, ints, l, m, n)),
    )

-- ---- in the strip, from the corners p and q on
abbrev pub GapBefore : Vector → Point → Point → List Bay → Type 0
GapBefore z q p [] = ⊥
GapBefore z q p (b ∷ rest) = InTriangle z (point p) (point q) (point b.outer)

abbrev pub Found : Vector → Point → Point → List Bay → Type 0
Found z q p bs = GapBefore z q p bs ⊎ InTube p bs z

gap_step : (z : Vector) (b : Bay) (rest : List Bay) → GapBefore z b.outer b.inner rest
    → InGaps (b ∷ rest) z
gap_step z b [] h = absurd h
gap_step z b (d ∷ rest) h = inl h

gaps_step : (z : Vector) (b : Bay) (rest : List Bay) → InGaps rest z → InGaps (b ∷ rest) z
gaps_step z b [] h = absurd h
gaps_step z b (d ∷ rest) h = inr h

pub found_step : (z : Vector) (p : Point) (b : Bay) (rest : List Bay) → Found z b.outer b.inner rest
    → InTube p (b ∷ rest) z
found_step z p b rest (inl h) = inr (gap_step z b rest h)
found_step z p b rest (inr (inl h)) = inl (inr h)
found_step z p b rest (inr (inr h)) = inr (gaps_step z b rest h)

-- the first outer straight is a side of the first triangle
pub found_first : (z : Vector) (p : Point) (bs : List Bay) → Found z p p bs → InTube p bs z
found_first z p bs (inr h) = h
found_first z p [] (inl h) = absurd h
found_first z p (b ∷ rest) (inl h) = inl (inl record {
  i = h.i +ℤ h.j;
  j = pos 0;
  k = h.k;
  i_least = (let a = h.i_least in let b = h.j_least in omega (arith, ints, a, b));
  j_least = omega (arith, ints);
  k_least = h.k_least;
  some = (let a = h.some in omega (arith, ints, a));
  is = record {
    x = ap (λ (v : ℤ). z.x *ℤ v) (one (pos 1) (pos 1) (pos 1)) ∙ h.is.x
        ∙ ap (λ (v : ℤ). v *ℤ z.n) (sym (one b.outer.x p.x b.inner.x));
    y = ap (λ (v : ℤ). z.y *ℤ v) (one (pos 1) (pos 1) (pos 1)) ∙ h.is.y
        ∙ ap (λ (v : ℤ). v *ℤ z.n) (sym (one b.outer.y p.y b.inner.y));
  };
})
  where
    one : (o x v : ℤ)
        → (((h.i +ℤ h.j) *ℤ x) +ℤ (pos 0 *ℤ v)) +ℤ (h.k *ℤ o)
        ≡ ((h.i *ℤ x) +ℤ (h.j *ℤ x)) +ℤ (h.k *ℤ o)
    one o x v = let d = sum-product h.i h.j x in let e = zero-product v in omega (arith, ints, d, e)

-- ---- the walk along the strip
-- right of o and left of v the outer chain goes on from o
after_top : (c : Cap) (z : Vector) (b : Bay) (rest : List Bay) → Place z
    → IsCapStrip c b.outer b.inner rest → IsUnder z b.outer b.inner rest
    → (b.outer.x *ℤ z.n) ≤ℤ z.x → z.x ≤ℤ (b.inner.x *ℤ z.n) → pos 0 <ℤ side (line b.outer b.inner) z
    → b.outer.x <ℤ b.inner.x → Found z b.outer b.inner rest
after_top c z b [] hz h u l r s on =
    absurd (let k = u record { low = l; high = r } in omega (arith, ints, k, s))
after_top c z b (d ∷ rest) hz h u l r s on = inl (top h.1)
  where
    top : (b.outer ≡ b.inner) ⊎ IsDip b.outer b.inner d.outer
        → InTriangle z (point b.inner) (point b.outer) (point d.outer)
    top (inl e) = absurd (let k = ap (λ (v : Point). v.x) e in omega (arith, ints, k, on))
    top (inr dip) =
        let out = h.0.up in
        let m = further b.inner.x d.outer.x z.n hz out in
        let under = u.0 record { low = l; high = omega (arith, ints, r, m) } in
        triangle_down b.outer b.inner d.outer z hz dip.under under (omega (arith, ints, s))
        (left_down b.outer b.inner d.outer z dip.up out dip.under r (omega (arith, ints, s)))

before_top : (c : Cap) (z : Vector) (q p : Point) (b : Bay) (rest : List Bay) → Place z
    → IsCapStrip c q p (b ∷ rest) → IsUnder z q p (b ∷ rest)
    → (p.x *ℤ z.n) ≤ℤ z.x → z.x ≤ℤ (b.outer.x *ℤ z.n) → pos 0 <ℤ side (line p b.outer) z
    → Found z q p (b ∷ rest)
before_top c z q p b rest hz h u l r s = inl (top h.1)
  where
    top : (q ≡ p) ⊎ IsDip q p b.outer → InTriangle z (point p) (point q) (point b.outer)
    top (inl e) =
        let k : side (line p b.outer) z ≤ℤ pos 0 = subst (λ (v : Point). InColumn v b.outer z
        → side (line v b.outer) z ≤ℤ pos 0) e u.0 record { low = l; high = r } in
        absurd (omega (arith, ints, k, s))
    top (inr dip) =
        let out = h.0.up in
        let m = further q.x p.x z.n hz dip.up in
        let under = u.0 record { low = omega (arith, ints, l, m); high = r } in
        triangle_down q p b.outer z hz dip.under under
        (right_down q p b.outer z dip.up out dip.under l (omega (arith, ints, s)))
        (omega (arith, ints, s))

-- under the straight p v, the place is not over any straight of the inner chain
under_all : (c : Cap) (z : Vector) (p : Point) (b : Bay) (rest : List Bay) → Place z → IsArch p b
    → IsCapStrip c b.outer b.inner rest
    → z.x ≤ℤ (b.inner.x *ℤ z.n) → side (line p b.inner) z <ℤ pos 0 → AtInner NotOver z p (b ∷ rest)
under_all c z p b rest hz a h r s = ((λ k. omega (arith, ints, s)), later rest h)
  where
    later : (rest : List Bay) → IsCapStrip c b.outer b.inner rest → AtInner NotOver z b.inner rest
    later [] h = tt
    later (d ∷ rest) h =
        let m = further b.inner.x d.outer.x z.n hz h.0.up in
        let n = further d.outer.x d.inner.x z.n hz h.0.on in (
          (λ (k : InColumn b.inner d.inner z). first k),
          inner_left NotOver c z d.outer d.inner rest hz h.4 (omega (arith, ints, r, m, n)),
        )
      where
        first : InColumn b.inner d.inner z → side (line b.inner d.inner) z ≤ℤ pos 0
        first k =
            let k_low = k.low in
            let e : z.x ≡ b.inner.x *ℤ z.n = omega (arith, ints, r, k_low) in
            let up = a.up in let on = a.on in let out = h.0.up in let out_on = h.0.on in
            let f = side_at_high p b.inner z e in
            let g = side_at_low b.inner d.inner z e in
            let w : (z.y -ℤ (b.inner.y *ℤ z.n)) ≤ℤ pos 0 = cancel_most (b.inner.x -ℤ p.x)
            (z.y -ℤ (b.inner.y *ℤ z.n)) (omega (arith, ints, up, on))
            (omega (arith, ints, f, s)) in
            let x = times_most (d.inner.x -ℤ b.inner.x) (z.y -ℤ (b.inner.y *ℤ z.n))
            (omega (arith, ints, out, out_on)) w in
            omega (arith, ints, g, x)

abbrev pub Split : Vector → Point → Point → List Bay → Type 0
Split z q p bs = Found z q p bs ⊎ AtInner NotOver z p bs

pub locate : (c : Cap) (z : Vector) (q p : Point) (bs : List Bay) → Place z → IsCapStrip c q p bs
    → (p.x *ℤ z.n) ≤ℤ z.x → z.x ≤ℤ (c.chord *ℤ z.n) → IsUnder z q p bs → Split z q p bs
locate c z q p [] hz h l r u = inr tt
locate c z q p (b ∷ rest) hz h l r u =
    by_lt_z (b.inner.x *ℤ z.n) z.x
    (λ (a : (b.inner.x *ℤ z.n) <ℤ z.x). later a
    (locate c z b.outer b.inner rest hz h.4 (omega (arith, ints, a)) r u.1))
    (λ (a : z.x ≤ℤ (b.inner.x *ℤ z.n)).
    by_lt_z z.x (b.outer.x *ℤ z.n)
    (λ (k : z.x <ℤ (b.outer.x *ℤ z.n)). let k0 : z.x ≤ℤ (b.outer.x *ℤ z.n) = omega
    (arith, ints, k) in
    by_lt_z (pos 0) (side (line p b.outer) z)
    (λ (s : pos 0 <ℤ side (line p b.outer) z). inl (before_top c z q p b rest hz h u l k0 s))
    (λ (s : side (line p b.outer) z ≤ℤ pos 0). middle a s
    (left_up p b.outer b.inner z h.0.up h.0.on h.0.over k0 s)))
    (λ (k : (b.outer.x *ℤ z.n) ≤ℤ z.x). by_lt_z (pos 0) (side (line b.outer b.inner) z)
    (λ (s : pos 0 <ℤ side (line b.outer b.inner) z). inl
    (inr (found_step z p b rest (after_top c z b rest hz h.4 u.1 k a s h.0.on))))
    (λ (s : side (line b.outer b.inner) z ≤ℤ pos 0). middle a
    (right_up p b.outer b.inner z h.0.up h.0.on h.0.over k s) s)))
  where
    later : (b.inner.x *ℤ z.n) <ℤ z.x → Split z b.outer b.inner rest → Split z q p (b ∷ rest)
    later a (inl f) = inl (inr (found_step z p b rest f))
    later a (inr g) =
        inr (
          (λ (k : InColumn p b.inner z). absurd (let k_high = k.high in
              omega (arith, ints, k_high, a))),
          g,
        )

    middle : z.x ≤ℤ (b.inner.x *ℤ z.n) → side (line p b.outer) z ≤ℤ pos 0
        → side (line b.outer b.inner) z ≤ℤ pos 0 → Split z q p (b ∷ rest)
    middle a s t = by_lt_z (side (line p b.inner) z) (pos 0)
        (λ (k : side (line p b.inner) z <ℤ pos 0). inr (under_all c z p b rest hz h.0 h.4 a k))
        (λ (k : pos 0 ≤ℤ side (line p b.inner) z). inl
        (inr (inl (inl (triangle_up p b.outer b.inner z hz h.0.over k s t)))))
