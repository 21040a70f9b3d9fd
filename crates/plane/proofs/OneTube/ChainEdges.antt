-- Two edges of one chain of a tube meet only where they are neighbours, and there in their common
-- corner.
use Rattle.std.proofs.Common.{◌≡◌, ℤ, pos, ◌+ℤ◌, ◌*ℤ◌, ◌<ℤ◌, ◌≤ℤ◌, ◌⊎◌, inl, inr, List, [], ◌∷◌}
use Rattle.std.proofs.Common.{refl, arith, ap, subst}
use Rattle.std.proofs.lemmas.Int.{ints}
use Rattle.plane.specs.declared.kinds.Point.{Point}
use Rattle.plane.specs.Forms.Vectors.{Vector, Place, Same, Between, point, mix}
use Rattle.plane.specs.Lists.{Last}
use Rattle.plane.specs.Forms.Arcs.{HalfArc, along}
use Rattle.plane.specs.Tubes.Bays.{Bay, AreBays, OnInner, OnOuter}
use Rattle.plane.proofs.Algebra.Scaling.{times_lt, cancel_lt}
use Rattle.plane.proofs.Linear.Signs.{mix_place}
use Rattle.plane.proofs.Algebra.Ring.{at, num, plus, times, vars, ring}
use Rattle.plane.proofs.Caps.Seen.{seen-mix, seen_same}
use Rattle.plane.proofs.Caps.CapStrips.{further}
use Rattle.plane.proofs.OneTube.TubeEdges.{at_end}

-- a place of the straight from p to q, by its length along the chord
abbrev pub At : HalfArc → Vector → Point → Point → Type 0
At h z p q =
    (((along h (point p) *ℤ z.n) <ℤ along h z) × (along h z <ℤ (along h (point q) *ℤ z.n)))
    ⊎ (Same z (point p) ⊎ Same z (point q))

pub at_corner : (h : HalfArc) (z : Vector) (p : Point) → Same z (point p)
    → along h z ≡ along h (point p) *ℤ z.n
at_corner h z p e = let k = (seen_same h z (point p) e).x in omega (arith, ints, k)

pub straight_at : (h : HalfArc) (z : Vector) (p q : Point) → Place z
    → along h (point p) <ℤ along h (point q) → Between z (point p) (point q) → At h z p q
straight_at h z p q hz l b =
    let one : pos 0 <ℤ pos 1 = omega (arith, ints) in
    elim (at_end z (point p) (point q) one one b) [ inl k ↦ inl (inside k.0 k.1) | inr k ↦ inr k ]
  where
    low : (s t a b : ℤ) → pos 0 <ℤ t → a <ℤ b
        → (a *ℤ ((s *ℤ pos 1) +ℤ (t *ℤ pos 1))) <ℤ ((s *ℤ a) +ℤ (t *ℤ b))
    low s t a b ht h =
        let p = times_lt t a b ht h in
        let i = ring (times (at 2) (plus (times (at 0) (num (pos 1))) (times (at 1) (num (pos 1)))))
        (plus (times (at 0) (at 2)) (times (at 1) (at 2))) (vars (s ∷ t ∷ a ∷ b ∷ [])) refl in
        omega (arith, ints, p, i)

    high : (s t a b : ℤ) → pos 0 <ℤ s → a <ℤ b
        → ((s *ℤ a) +ℤ (t *ℤ b)) <ℤ (b *ℤ ((s *ℤ pos 1) +ℤ (t *ℤ pos 1)))
    high s t a b hs h =
        let p = times_lt s a b hs h in
        let i = ring (times (at 3) (plus (times (at 0) (num (pos 1))) (times (at 1) (num (pos 1)))))
        (plus (times (at 0) (at 3)) (times (at 1) (at 3))) (vars (s ∷ t ∷ a ∷ b ∷ [])) refl in
        omega (arith, ints, p, i)

    inside : pos 0 <ℤ b.s → pos 0 <ℤ b.t
        → ((along h (point p) *ℤ z.n) <ℤ along h z) × (along h z <ℤ (along h (point q) *ℤ z.n))
    inside ks kt =
        let m = mix b.s (point p) b.t (point q) in
        let one : pos 0 <ℤ pos 1 = omega (arith, ints) in
        let hm = mix_place b.s (point p) b.t (point q) one one b.s_least b.t_least b.some in
        let e : along h z *ℤ m.n ≡ along h m *ℤ z.n = (seen_same h z m b.is).x in
        let f : along h m ≡ (b.s *ℤ along h (point p))
        +ℤ (b.t *ℤ along h (point q)) =
        ap (λ (v : Vector). v.x) (seen-mix h b.s (point p) b.t (point q)) in
        let u = low b.s b.t (along h (point p)) (along h (point q)) kt l in
        let v = high b.s b.t (along h (point p)) (along h (point q)) ks l in (
          scaled_low (along h (point p)) (along h z) z.n (along h m) m.n hz hm e
              (omega (arith, ints, f, u)),
          scaled_high (along h (point q)) (along h z) z.n
              (along h m) m.n hz hm e (omega (arith, ints, f, v)),
        )
      where
        scaled_low : (a x n y m : ℤ) → pos 0 <ℤ n → pos 0 <ℤ m → x *ℤ m ≡ y *ℤ n → (a *ℤ m) <ℤ y
            → (a *ℤ n) <ℤ x
        scaled_low a x n y m hn hm e k =
            let p = times_lt n (a *ℤ m) y hn k in
            let i = ring (times (at 0) (times (at 1) (at 2))) (times (at 2) (times (at 1) (at 0)))
            (vars (n ∷ a ∷ m ∷ [])) refl in
            let j = ring (times (at 0) (at 1)) (times (at 1) (at 0)) (vars (n ∷ y ∷ [])) refl in
            let g = ring (times (at 0) (at 1)) (times (at 1) (at 0)) (vars (m ∷ x ∷ [])) refl in
            cancel_lt m (a *ℤ n) x hm (omega (arith, ints, p, i, j, g, e))

        scaled_high : (a x n y m : ℤ) → pos 0 <ℤ n → pos 0 <ℤ m → x *ℤ m ≡ y *ℤ n → y <ℤ (a *ℤ m)
            → x <ℤ (a *ℤ n)
        scaled_high a x n y m hn hm e k =
            let p = times_lt n y (a *ℤ m) hn k in
            let i = ring (times (at 0) (times (at 1) (at 2))) (times (at 2) (times (at 1) (at 0)))
            (vars (n ∷ a ∷ m ∷ [])) refl in
            let j = ring (times (at 0) (at 1)) (times (at 1) (at 0)) (vars (n ∷ y ∷ [])) refl in
            let g = ring (times (at 0) (at 1)) (times (at 1) (at 0)) (vars (m ∷ x ∷ [])) refl in
            cancel_lt m x (a *ℤ n) hm (omega (arith, ints, p, i, j, g, e))

-- not before p, and not after q
not_before : (h : HalfArc) (z : Vector) (p q : Point) → Place z
    → along h (point p) <ℤ along h (point q) → At h z p q → (along h (point p) *ℤ z.n) ≤ℤ along h z
not_before h z p q hz l (inl k) = let a = k.0 in omega (arith, ints, a)
not_before h z p q hz l (inr (inl e)) = let a = at_corner h z p e in omega (arith, ints, a)
not_before h z p q hz l (inr (inr e)) =
    let a = at_corner h z q e in
    let m = further (along h (point p)) (along h (point q)) z.n hz l in omega (arith, ints, a, m)

not_after : (h : HalfArc) (z : Vector) (p q : Point) → Place z
    → along h (point p) <ℤ along h (point q) → At h z p q → along h z ≤ℤ (along h (point q) *ℤ z.n)
not_after h z p q hz l (inl k) = let a = k.1 in omega (arith, ints, a)
not_after h z p q hz l (inr (inl e)) =
    let a = at_corner h z p e in
    let m = further (along h (point p)) (along h (point q)) z.n hz l in omega (arith, ints, a, m)
not_after h z p q hz l (inr (inr e)) = let a = at_corner h z q e in omega (arith, ints, a)

-- at the end q, it is q
pub at_last : (h : HalfArc) (z : Vector) (p q : Point) → Place z
    → along h (point p) <ℤ along h (point q) → At h z p q → (along h (point q) *ℤ z.n) ≤ℤ along h z
    → Same z (point q)
at_last h z p q hz l (inl k) m = absurd (let a = k.1 in omega (arith, ints, a, m))
at_last h z p q hz l (inr (inl e)) m =
    absurd (let a = at_corner h z p e in
    let n = further (along h (point p)) (along h (point q)) z.n hz l in
    omega (arith, ints, a, n, m))
at_last h z p q hz l (inr (inr e)) m = e

-- at the end p, it is p
pub at_first : (h : HalfArc) (z : Vector) (p q : Point) → Place z
    → along h (point p) <ℤ along h (point q) → At h z p q → along h z ≤ℤ (along h (point p) *ℤ z.n)
    → Same z (point p)
at_first h z p q hz l (inl k) m = absurd (let a = k.0 in omega (arith, ints, a, m))
at_first h z p q hz l (inr (inl e)) m = e
at_first h z p q hz l (inr (inr e)) m =
    absurd (let a = at_corner h z q e in
    let n = further (along h (point p)) (along h (point q)) z.n hz l in
    omega (arith, ints, a, n, m))

-- the inner chain goes on from v
inner_not_before : (h : HalfArc) (z : Vector) (v : Point) (bs : List Bay) → Place z → AreBays h v bs
    → OnInner z v bs → (along h (point v) *ℤ z.n) ≤ℤ along h z
inner_not_before h z v [] hz a k = absurd k
inner_not_before h z v (b ∷ rest) hz a (inl k) =
    let up = a.0.up in let on = a.0.on in
    let l : along h (point v) <ℤ along h (point b.inner) = omega (arith, ints, up, on) in
    not_before h z v b.inner hz l (straight_at h z v b.inner hz l k)
inner_not_before h z v (b ∷ rest) hz a (inr k) =
    let up = a.0.up in let on = a.0.on in
    let m = further (along h (point v)) (along h (point b.inner)) z.n hz
    (omega (arith, ints, up, on)) in
    let r = inner_not_before h z b.inner rest hz a.1 k in
    omega (arith, ints, m, r)

pub inner_edges_meet : (h : HalfArc) (p : Point) (b : Bay) (rest : List Bay) (z : Vector) → Place z
    → AreBays h p (b ∷ rest) → Between z (point p) (point b.inner) → OnInner z b.inner rest
    → Same z (point b.inner)
inner_edges_meet h p b rest z hz a k o =
    let up = a.0.up in let on = a.0.on in
    let l : along h (point p) <ℤ along h (point b.inner) = omega (arith, ints, up, on) in
    at_last h z p b.inner hz l (straight_at h z p b.inner hz l k)
    (inner_not_before h z b.inner rest hz a.1 o)

pub inner_edges_apart : (h : HalfArc) (p : Point) (b d : Bay) (rest : List Bay) (z : Vector)
    → Place z → AreBays h p (b ∷ (d ∷ rest)) → Between z (point p) (point b.inner)
    → OnInner z d.inner rest → ⊥
inner_edges_apart h p b d rest z hz a k o =
    let up = a.0.up in let on = a.0.on in
    let l : along h (point p) <ℤ along h (point b.inner) = omega (arith, ints, up, on) in
    let u = not_after h z p b.inner hz l (straight_at h z p b.inner hz l k) in
    let v = inner_not_before h z d.inner rest hz a.1.1 o in
    let up2 = a.1.0.up in let on2 = a.1.0.on in
    let m = further (along h (point b.inner)) (along h (point d.inner)) z.n hz
    (omega (arith, ints, up2, on2)) in
    omega (arith, ints, u, v, m)

-- ---- the outer chain goes on from q, with the inner corner p after it
abbrev pub EndsAt : Point → Point → List Bay → Type 0
EndsAt p e [] = p ≡ e
EndsAt p e (b ∷ rest) = EndsAt b.inner e rest

pub ends_at : (e p : Point) (b : Bay) (rest : List Bay) → Last (λ d. d.inner ≡ e) (b ∷ rest)
    → EndsAt p e (b ∷ rest)
ends_at e p b [] h = h
ends_at e p b (d ∷ rest) h = ends_at e b.inner d rest h

outer_not_before : (h : HalfArc) (z : Vector) (q p e : Point) (bs : List Bay) → Place z
    → AreBays h p bs → EndsAt p e bs → along h (point q) <ℤ along h (point p) → OnOuter z q e bs
    → (along h (point q) *ℤ z.n) ≤ℤ along h z
outer_not_before h z q p e [] hz a end l k =
    let m : along h (point q) <ℤ along h (point e) = subst
    (λ (v : Point). along h (point q) <ℤ along h (point v)) end l in
    not_before h z q e hz m (straight_at h z q e hz m k)
outer_not_before h z q p e (b ∷ rest) hz a end l (inl k) =
    let up = a.0.up in
    let m : along h (point q) <ℤ along h (point b.outer) = omega (arith, ints, l, up) in
    not_before h z q b.outer hz m (straight_at h z q b.outer hz m k)
outer_not_before h z q p e (b ∷ rest) hz a end l (inr k) =
    let up = a.0.up in
    let m = further (along h (point q)) (along h (point b.outer)) z.n hz
    (omega (arith, ints, l, up)) in
    let r = outer_not_before h z b.outer b.inner e rest hz a.1 end a.0.on k in
    omega (arith, ints, m, r)

pub outer_edges_meet : (h : HalfArc) (q p e : Point) (b : Bay) (rest : List Bay) (z : Vector)
    → Place z → AreBays h p (b ∷ rest) → EndsAt p e (b ∷ rest)
    → along h (point q) ≤ℤ along h (point p)
    → Between z (point q) (point b.outer) → OnOuter z b.outer e rest → Same z (point b.outer)
outer_edges_meet h q p e b rest z hz a end l k o =
    let up = a.0.up in
    let m : along h (point q) <ℤ along h (point b.outer) = omega (arith, ints, l, up) in
    at_last h z q b.outer hz m (straight_at h z q b.outer hz m k)
    (outer_not_before h z b.outer b.inner e rest hz a.1 end a.0.on o)

pub outer_edges_apart : (h : HalfArc) (q p e : Point) (b d : Bay) (rest : List Bay) (z : Vector)
    → Place z → AreBays h p (b ∷ (d ∷ rest)) → EndsAt p e (b ∷ (d ∷ rest))
    → along h (point q) ≤ℤ along h (point p)
    → Between z (point q) (point b.outer) → OnOuter z d.outer e rest → ⊥
outer_edges_apart h q p e b d rest z hz a end l k o =
    let up = a.0.up in let on = a.0.on in let up2 = a.1.0.up in
    let m : along h (point q) <ℤ along h (point b.outer) = omega (arith, ints, l, up) in
    let u = not_after h z q b.outer hz m (straight_at h z q b.outer hz m k) in
    let v = outer_not_before h z d.outer d.inner e rest hz a.1.1 end a.1.0.on o in
    let w = further (along h (point b.outer)) (along h (point d.outer)) z.n hz
    (omega (arith, ints, on, up2)) in
    omega (arith, ints, u, v, w)
