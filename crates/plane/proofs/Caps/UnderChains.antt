-- A place of the strip is not over the outer chain.
use Rattle.std.proofs.Common.{◌≡◌, pos, ◌*ℤ◌, ◌-ℤ◌, ◌<ℤ◌, ◌≤ℤ◌, ◌⊎◌, inl, inr, List, [], ◌∷◌, arith}
use Rattle.std.proofs.Common.{ap, subst, sym}
use Rattle.std.proofs.lemmas.Int.{ints, by_lt_z}
use Rattle.plane.specs.declared.kinds.Point.{Point}
use Rattle.plane.specs.Forms.Vectors.{Vector, Place, point, side}
use Rattle.plane.specs.Tubes.Caps.{Cap}
use Rattle.plane.specs.Tubes.Bays.{Bay, InBays, InGaps, InTube}
use Rattle.plane.specs.Tubes.CapStrips.{line, InColumn, IsUnder}
use Rattle.plane.proofs.Caps.StripWords.{IsDip, IsCapStrip}
use Rattle.plane.proofs.Linear.Vectors.{side-low, side-high}
use Rattle.plane.proofs.Caps.CapOver.{cancel_most, times_most}
use Rattle.plane.proofs.Caps.CapStrips.{side_at_low, side_at_high, further}
use Rattle.plane.proofs.Caps.CapTriangles.{triangle_most, triangle_low, triangle_high, side-turned}
use Rattle.plane.proofs.Caps.CapTriangles.{side-swapped, fan_low_most, fan_high_most}
use Rattle.plane.proofs.Caps.CapRegions.{gap_is, dip_of, zero_most}

-- from the outer corner q and the inner corner p after it on: not over the chain, not left of q,
-- and not over q itself
pub record UnderRest (z : Vector) (q p : Point) (bs : List Bay) : Type 0 where
  pub chain : IsUnder z q p bs
  pub low : (q.x *ℤ z.n) ≤ℤ z.x
  pub start : z.x ≡ q.x *ℤ z.n → z.y ≤ℤ (q.y *ℤ z.n)

-- the outer corner after o
abbrev next_top : Point → List Bay → Point
next_top p [] = p
next_top p (d ∷ rest) = d.outer

next_right : (c : Cap) (o v : Point) (rest : List Bay) → IsCapStrip c o v rest → o.x <ℤ v.x
    → v.x ≤ℤ (next_top v rest).x
next_right c o v [] h l = omega (arith, ints)
next_right c o v (d ∷ rest) h l = let up = h.0.up in omega (arith, ints, up)

-- left of q nothing of the chain is met
under_left : (c : Cap) (z : Vector) (q p : Point) (bs : List Bay) → Place z → IsCapStrip c q p bs
    → q.x ≤ℤ p.x → z.x <ℤ (q.x *ℤ z.n) → IsUnder z q p bs
under_left c z q p [] hz h a l = λ k. absurd (let low = k.low in omega (arith, ints, low, l))
under_left c z q p (b ∷ rest) hz h a l =
    let up = h.0.up in let on = h.0.on in
    let m = further q.x b.outer.x z.n hz (omega (arith, ints, a, up)) in (
      (λ k. absurd (let low = k.low in omega (arith, ints, low, l))),
      under_left c z b.outer b.inner rest hz h.4 (omega (arith, ints, on))
          (omega (arith, ints, l, m)),
    )

low_side : (o w : Point) (z : Vector) → o.x ≤ℤ w.x → z.x ≡ o.x *ℤ z.n → z.y ≤ℤ (o.y *ℤ z.n)
    → side (line o w) z ≤ℤ pos 0
low_side o w z a e y =
    let p = times_most (w.x -ℤ o.x) (z.y -ℤ (o.y *ℤ z.n)) (omega (arith, ints, a))
    (omega (arith, ints, y)) in
    let s = side_at_low o w z e in
    omega (arith, ints, p, s)

-- at q or left of it
under_next : (c : Cap) (z : Vector) (q p : Point) (bs : List Bay) → Place z → IsCapStrip c q p bs
    → q.x ≤ℤ p.x → z.x ≤ℤ (q.x *ℤ z.n) → (z.x ≡ q.x *ℤ z.n → z.y ≤ℤ (q.y *ℤ z.n)) → IsUnder z q p bs
under_next c z q p [] hz h a r f = λ k. let l = k.low in
    let e : z.x ≡ q.x *ℤ z.n = omega (arith, ints, l, r) in low_side q p z a e (f e)
under_next c z q p (b ∷ rest) hz h a r f =
    let up = h.0.up in let on = h.0.on in
    let wide : q.x <ℤ b.outer.x = omega (arith, ints, a, up) in
    let m = further q.x b.outer.x z.n hz wide in (
      (λ k. let l = k.low in let e : z.x ≡ q.x *ℤ z.n = omega (arith, ints, l, r) in
          low_side q b.outer z (omega (arith, ints, wide)) e (f e)),
      under_left c z b.outer b.inner rest hz h.4 (omega (arith, ints, on))
          (omega (arith, ints, r, m)),
    )

start_low : (q o : Point) (z : Vector) → q.x <ℤ o.x → side (line q o) z ≤ℤ pos 0 → z.x ≡ q.x *ℤ z.n
    → z.y ≤ℤ (q.y *ℤ z.n)
start_low q o z w s e =
    let f = side_at_low q o z e in
    let y = cancel_most (o.x -ℤ q.x) (z.y -ℤ (q.y *ℤ z.n)) (omega (arith, ints, w))
    (omega (arith, ints, f, s)) in
    omega (arith, ints, y)

-- under the straight from q to the next outer corner
under_own : (c : Cap) (z : Vector) (q p : Point) (b : Bay) (rest : List Bay) → Place z
    → IsCapStrip c q p (b ∷ rest) → q.x ≤ℤ p.x → InColumn q b.outer z
    → side (line q b.outer) z ≤ℤ pos 0 → UnderRest z q p (b ∷ rest)
under_own c z q p b rest hz h a k s =
    let up = h.0.up in let on = h.0.on in
    let wide : q.x <ℤ b.outer.x = omega (arith, ints, a, up) in
    record {
      chain = (
        (λ _. s),
        under_next c z b.outer b.inner rest hz h.4 (omega (arith, ints, on)) k.high
            (λ (e : z.x ≡ b.outer.x *ℤ z.n).
            let f = side_at_high q b.outer z e in
            let y = cancel_most (b.outer.x -ℤ q.x) (z.y -ℤ (b.outer.y *ℤ z.n))
            (omega (arith, ints, wide)) (omega (arith, ints, f, s)) in
            omega (arith, ints, y)),
      );
      low = k.low;
      start = start_low q b.outer z wide s;
    }

-- under the last straight
under_last : (z : Vector) (q p : Point) → q.x <ℤ p.x → (q.x *ℤ z.n) ≤ℤ z.x
    → side (line q p) z ≤ℤ pos 0 → UnderRest z q p []
under_last z q p w l s = record { chain = λ _. s; low = l; start = start_low q p z w s }

under_step : (c : Cap) (z : Vector) (q p : Point) (b : Bay) (rest : List Bay) → Place z
    → IsCapStrip c q p (b ∷ rest) → q.x ≤ℤ p.x → UnderRest z b.outer b.inner rest
    → UnderRest z q p (b ∷ rest)
under_step c z q p b rest hz h a o =
    let up = h.0.up in
    let wide : q.x <ℤ b.outer.x = omega (arith, ints, a, up) in
    let l = o.low in
    let m = further q.x b.outer.x z.n hz wide in
    record {
      chain = (
        (λ (k : InColumn q b.outer z).
            let r = k.high in
            let e : z.x ≡ b.outer.x *ℤ z.n = omega (arith, ints, l, r) in
            let y = o.start e in
            let w = times_most (b.outer.x -ℤ q.x) (z.y -ℤ (b.outer.y *ℤ z.n))
            (omega (arith, ints, wide)) (omega (arith, ints, y)) in
            let f = side_at_high q b.outer z e in
            omega (arith, ints, w, f)),
        o.chain,
      );
      low = omega (arith, ints, l, m);
      start = λ (e : z.x ≡ q.x *ℤ z.n). absurd (omega (arith, ints, e, l, m));
    }

not_after : (c : Cap) (q p : Point) (b : Bay) (rest : List Bay) → IsCapStrip c q p (b ∷ rest)
    → q.x ≤ℤ p.x
not_after c q p b rest h = by (h.1)
  where
    by : (q ≡ p) ⊎ IsDip q p b.outer → q.x ≤ℤ p.x
    by (inl e) = let k = ap (λ (v : Point). v.x) e in omega (arith, ints, k)
    by (inr d) = let k = d.up in omega (arith, ints, k)

-- right of o, a place of the triangle p v o is under the straight that goes on from o
after_peak : (c : Cap) (z : Vector) (b : Bay) (rest : List Bay) → Place z
    → IsCapStrip c b.outer b.inner rest → b.outer.x <ℤ b.inner.x → (b.outer.x *ℤ z.n) ≤ℤ z.x
    → z.x ≤ℤ (b.inner.x *ℤ z.n)
    → side (line b.outer b.inner) z ≤ℤ pos 0 → UnderRest z b.outer b.inner rest
after_peak c z b [] hz h on l r s = under_last z b.outer b.inner on l s
after_peak c z b (d ∷ rest) hz h on l r s =
    let out = h.0.up in
    let m = further b.inner.x d.outer.x z.n hz out in
    under_own c z b.outer b.inner d rest hz h (omega (arith, ints, on)) record {
      low = l;
      high = omega (arith, ints, r, m);
    }
    (dipped h.1)
  where
    dipped : (b.outer ≡ b.inner) ⊎ IsDip b.outer b.inner d.outer
        → side (line b.outer d.outer) z ≤ℤ pos 0
    dipped (inl e) = absurd (let k = ap (λ (v : Point). v.x) e in omega (arith, ints, k, on))
    dipped (inr k) =
        let under = k.under in
        let out = h.0.up in
        fan_low_most b.outer d.outer b.inner z on (omega (arith, ints, on, out))
        (omega (arith, ints, under)) l s

bays_under : (c : Cap) (z : Vector) (q p : Point) (bs : List Bay) → Place z → IsCapStrip c q p bs
    → InBays p bs z → UnderRest z q p bs
bays_under c z q p [] hz h k = absurd k
bays_under c z q p (b ∷ rest) hz h (inl t) =
    by_lt_z z.x (b.outer.x *ℤ z.n)
    (λ (k : z.x <ℤ (b.outer.x *ℤ z.n)).
    let k0 : z.x ≤ℤ (b.outer.x *ℤ z.n) = omega (arith, ints, k) in
    under_own c z q p b rest hz h (not_after c q p b rest h) record {
      low = left;
      high = k0;
    } (first h.1 k0))
    (λ (k : (b.outer.x *ℤ z.n) ≤ℤ z.x). under_step c z q p b rest hz h (not_after c q p b rest h)
    (after_peak c z b rest hz h.4 on k right after))
  where
    up : p.x <ℤ b.outer.x
    up = h.0.up

    on : b.outer.x <ℤ b.inner.x
    on = h.0.on

    peak : pos 0 <ℤ side (line p b.inner) (point b.outer)
    peak = h.0.over

    inner_low : (p.x *ℤ z.n) ≤ℤ z.x
    inner_low = triangle_low p.x z p b.inner b.outer hz t (omega (arith, ints))
        (omega (arith, ints, up, on)) (omega (arith, ints, up))

    left : (q.x *ℤ z.n) ≤ℤ z.x
    left = by (h.1)
      where
        by : (q ≡ p) ⊎ IsDip q p b.outer → (q.x *ℤ z.n) ≤ℤ z.x
        by (inl e) = let k = ap (λ (v : Point). v.x *ℤ z.n) e in omega (arith, ints, k, inner_low)
        by (inr d) = let m = further q.x p.x z.n hz d.up in omega (arith, ints, m, inner_low)

    right : z.x ≤ℤ (b.inner.x *ℤ z.n)
    right = triangle_high b.inner.x z p b.inner b.outer hz t (omega (arith, ints, up, on))
        (omega (arith, ints)) (omega (arith, ints, on))

    -- under p o and under o v
    before : side (line p b.outer) z ≤ℤ pos 0
    before =
        let e = side-swapped p b.outer b.inner in
        triangle_most (line p b.outer) z p b.inner b.outer hz t
        (zero_most _ (side-low (line p b.outer))) (omega (arith, ints, e, peak))
        (zero_most _ (side-high (line p b.outer)))

    after : side (line b.outer b.inner) z ≤ℤ pos 0
    after =
        let e = side-swapped p b.outer b.inner in
        let f = side-turned p b.outer b.inner in
        triangle_most (line b.outer b.inner) z p b.inner b.outer hz t
        (omega (arith, ints, e, f, peak)) (zero_most _ (side-high (line b.outer b.inner)))
        (zero_most _ (side-low (line b.outer b.inner)))

    first : (q ≡ p) ⊎ IsDip q p b.outer → z.x ≤ℤ (b.outer.x *ℤ z.n)
        → side (line q b.outer) z ≤ℤ pos 0
    first (inl e) k = subst (λ (v : Point). side (line v b.outer) z ≤ℤ pos 0) (sym e) before
    first (inr d) k =
        let under = d.under in
        let l = d.up in
        fan_high_most b.outer q p z up (omega (arith, ints, l, up))
        (omega (arith, ints, under)) k before
bays_under c z q p (b ∷ rest) hz h (inr k) =
    under_step c z q p b rest hz h (not_after c q p b rest h)
    (bays_under c z b.outer b.inner rest hz h.4 k)

gaps_under : (c : Cap) (z : Vector) (q p : Point) (bs : List Bay) → Place z → IsCapStrip c q p bs
    → InGaps bs z → UnderRest z q p bs
gaps_under c z q p [] hz h k = absurd k
gaps_under c z q p (b ∷ []) hz h k = absurd k
gaps_under c z q p (b ∷ (d ∷ rest)) hz h (inl t) =
    let dip = dip_of p b d h.0 h.4.1 in
    let on = h.0.on in
    let g = gap_is z b.inner b.outer d.outer hz dip.up h.4.0.up dip.under t in
    under_step c z q p b (d ∷ rest) hz h (not_after c q p b (d ∷ rest) h)
    (under_own c z b.outer b.inner d rest hz h.4 (omega (arith, ints, on)) record {
      low = g.low;
      high = g.high;
    } g.under)
gaps_under c z q p (b ∷ (d ∷ rest)) hz h (inr k) =
    under_step c z q p b (d ∷ rest) hz h (not_after c q p b (d ∷ rest) h)
    (gaps_under c z b.outer b.inner (d ∷ rest) hz h.4 k)

pub strip_under : (c : Cap) (z : Vector) (q p : Point) (bs : List Bay) → Place z
    → IsCapStrip c q p bs → InTube p bs z → IsUnder z q p bs
strip_under c z q p bs hz h (inl k) = (bays_under c z q p bs hz h k).chain
strip_under c z q p bs hz h (inr k) = (gaps_under c z q p bs hz h k).chain
