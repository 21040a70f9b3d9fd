-- The strip is what is not under the inner chain and not over the outer chain.
use Rattle.std.proofs.Common.{◌≡◌, ℤ, pos, ◌*ℤ◌, ◌-ℤ◌, ◌<ℤ◌, ◌≤ℤ◌, ◌⊎◌, inl, inr, List, [], ◌∷◌}
use Rattle.std.proofs.Common.{arith, ap}
use Rattle.std.proofs.lemmas.Int.{ints, by_lt_z}
use Rattle.plane.specs.declared.kinds.Point.{Point}
use Rattle.plane.specs.Forms.Vectors.{Vector, Place, point, side}
use Rattle.plane.specs.Tubes.Caps.{Cap}
use Rattle.plane.specs.Tubes.Bays.{InTriangle, Bay, IsSome, InBays, InGaps, InTube}
use Rattle.plane.specs.Tubes.CapStrips.{line, InColumn, IsUnder, AtInner}
use Rattle.plane.proofs.Caps.StripWords.{IsArch, IsDip, IsCapStrip}
use Rattle.plane.specs.Tubes.Regions.{NotUnder}
use Rattle.plane.proofs.Algebra.Laws.{product_nonnegative}
use Rattle.plane.proofs.Linear.Vectors.{side-low, side-high}
use Rattle.plane.proofs.Caps.CapOver.{cancel_least}
use Rattle.plane.proofs.Caps.CapCorners.{on_straight}
use Rattle.plane.proofs.Caps.CapStrips.{side_at_low, side_at_high, further, inner_left, NotOver}
use Rattle.plane.proofs.Caps.CapStrips.{found_first, locate}
use Rattle.plane.proofs.Caps.CapTriangles.{triangle_least, triangle_most, triangle_low}
use Rattle.plane.proofs.Caps.CapTriangles.{triangle_high, side-turned, side-swapped, fan_low_least}
use Rattle.plane.proofs.Caps.CapTriangles.{fan_high_least}

-- ---- over the inner chain
-- from p on: not under the chain, not left of p, and not under p itself
pub record OverRest (z : Vector) (p : Point) (bs : List Bay) : Type 0 where
  pub chain : AtInner NotUnder z p bs
  pub low : (p.x *ℤ z.n) ≤ℤ z.x
  pub start : z.x ≡ p.x *ℤ z.n → (p.y *ℤ z.n) ≤ℤ z.y

over_next : (c : Cap) (z : Vector) (q v : Point) (rest : List Bay) → Place z → IsCapStrip c q v rest
    → z.x ≤ℤ (v.x *ℤ z.n) → (z.x ≡ v.x *ℤ z.n → (v.y *ℤ z.n) ≤ℤ z.y) → AtInner NotUnder z v rest
over_next c z q v [] hz h r f = tt
over_next c z q v (d ∷ rest) hz h r f =
    let up = h.0.up in let on = h.0.on in
    let m = further v.x d.outer.x z.n hz up in
    let n = further d.outer.x d.inner.x z.n hz on in (
      (λ (k : InColumn v d.inner z). here k),
      inner_left NotUnder c z d.outer d.inner rest hz h.4 (omega (arith, ints, r, m, n)),
    )
  where
    here : InColumn v d.inner z → pos 0 ≤ℤ side (line v d.inner) z
    here k =
        let l = k.low in
        let e : z.x ≡ v.x *ℤ z.n = omega (arith, ints, l, r) in
        let up = h.0.up in let on = h.0.on in
        let y = f e in
        let p = product_nonnegative (d.inner.x -ℤ v.x) (z.y -ℤ (v.y *ℤ z.n))
        (omega (arith, ints, up, on)) (omega (arith, ints, y)) in
        let s = side_at_low v d.inner z e in
        omega (arith, ints, p, s)

over_own : (c : Cap) (z : Vector) (p : Point) (b : Bay) (rest : List Bay) → Place z → IsArch p b
    → IsCapStrip c b.outer b.inner rest → InColumn p b.inner z → pos 0 ≤ℤ side (line p b.inner) z
    → OverRest z p (b ∷ rest)
over_own c z p b rest hz a h k s =
    let up = a.up in let on = a.on in
    let wide : pos 0 <ℤ (b.inner.x -ℤ p.x) = omega (arith, ints, up, on) in
    record {
      chain = (
        (λ _. s),
        over_next c z b.outer b.inner rest hz h k.high (λ (e : z.x ≡ b.inner.x *ℤ z.n).
            let f = side_at_high p b.inner z e in
            let y = cancel_least (b.inner.x -ℤ p.x) (z.y -ℤ (b.inner.y *ℤ z.n)) wide
            (omega (arith, ints, f, s)) in
            omega (arith, ints, y)),
      );
      low = k.low;
      start = λ (e : z.x ≡ p.x *ℤ z.n).
          let f = side_at_low p b.inner z e in
          let y = cancel_least (b.inner.x -ℤ p.x) (z.y -ℤ (p.y *ℤ z.n)) wide
          (omega (arith, ints, f, s)) in
          omega (arith, ints, y);
    }

over_step : (z : Vector) (p : Point) (b : Bay) (rest : List Bay) → Place z → IsArch p b
    → OverRest z b.inner rest → OverRest z p (b ∷ rest)
over_step z p b rest hz a o =
    let up = a.up in let on = a.on in
    let l = o.low in
    let m = further p.x b.inner.x z.n hz (omega (arith, ints, up, on)) in
    record {
      chain = (
        (λ (k : InColumn p b.inner z).
            let r = k.high in
            let e : z.x ≡ b.inner.x *ℤ z.n = omega (arith, ints, l, r) in
            let y = o.start e in
            let w = product_nonnegative (b.inner.x -ℤ p.x) (z.y -ℤ (b.inner.y *ℤ z.n))
            (omega (arith, ints, up, on)) (omega (arith, ints, y)) in
            let f = side_at_high p b.inner z e in
            omega (arith, ints, w, f)),
        o.chain,
      );
      low = omega (arith, ints, l, m);
      start = λ (e : z.x ≡ p.x *ℤ z.n). absurd (omega (arith, ints, e, l, m));
    }

pub zero_least : (a : ℤ) → a ≡ pos 0 → pos 0 ≤ℤ a
zero_least a e = omega (arith, ints, e)

pub zero_most : (a : ℤ) → a ≡ pos 0 → a ≤ℤ pos 0
zero_most a e = omega (arith, ints, e)

bays_over : (c : Cap) (z : Vector) (q p : Point) (bs : List Bay) → Place z → IsCapStrip c q p bs
    → InBays p bs z → OverRest z p bs
bays_over c z q p [] hz h k = absurd k
bays_over c z q p (b ∷ rest) hz h (inl t) =
    let up = h.0.up in let on = h.0.on in let high = h.0.over in
    let l = triangle_low p.x z p b.inner b.outer hz t (omega (arith, ints))
    (omega (arith, ints, up, on)) (omega (arith, ints, up)) in
    let r = triangle_high b.inner.x z p b.inner b.outer hz t (omega (arith, ints, up, on))
    (omega (arith, ints)) (omega (arith, ints, on)) in
    over_own c z p b rest hz h.0 h.4 record { low = l; high = r }
    (triangle_least (line p b.inner) z p b.inner b.outer hz t
    (zero_least _ (side-low (line p b.inner))) (zero_least _ (side-high (line p b.inner)))
    (omega (arith, ints, high)))
bays_over c z q p (b ∷ rest) hz h (inr k) =
    over_step z p b rest hz h.0 (bays_over c z b.outer b.inner rest hz h.4 k)

-- a triangle from the outer corners o and w down to the inner corner v
pub record IsGap (z : Vector) (v o w : Point) : Type 0 where
  pub before : pos 0 ≤ℤ side (line o v) z
  pub after : pos 0 ≤ℤ side (line v w) z
  pub under : side (line o w) z ≤ℤ pos 0
  pub low : (o.x *ℤ z.n) ≤ℤ z.x
  pub high : z.x ≤ℤ (w.x *ℤ z.n)

pub gap_is : (z : Vector) (v o w : Point) → Place z → o.x <ℤ v.x → v.x <ℤ w.x
    → side (line o w) (point v) <ℤ pos 0 → InTriangle z (point v) (point o) (point w)
    → IsGap z v o w
gap_is z v o w hz a b d t =
    let e1 = side-swapped o v w in
    let e2 = side-turned o v w in
    record {
      before = triangle_least (line o v) z v o w hz t (zero_least _ (side-high (line o v)))
          (zero_least _ (side-low (line o v))) (omega (arith, ints, e1, d));
      after = triangle_least (line v w) z v o w hz t (zero_least _ (side-low (line v w)))
          (omega (arith, ints, e1, e2, d)) (zero_least _ (side-high (line v w)));
      under = triangle_most (line o w) z v o w hz t (omega (arith, ints, d))
          (zero_most _ (side-low (line o w))) (zero_most _ (side-high (line o w)));
      low = triangle_low o.x z v o w hz t (omega (arith, ints, a)) (omega (arith, ints))
          (omega (arith, ints, a, b));
      high = triangle_high w.x z v o w hz t (omega (arith, ints, b)) (omega (arith, ints, a, b))
          (omega (arith, ints));
    }

-- the inner corner between two outer ones is under them
pub dip_of : (p : Point) (b d : Bay) → IsArch p b
    → (b.outer ≡ b.inner) ⊎ IsDip b.outer b.inner d.outer → IsDip b.outer b.inner d.outer
dip_of p b d a (inl e) =
    absurd (let k = ap (λ (v : Point). v.x) e in let on = a.on in omega (arith, ints, k, on))
dip_of p b d a (inr k) = k

gaps_over : (c : Cap) (z : Vector) (q p : Point) (bs : List Bay) → Place z → IsCapStrip c q p bs
    → InGaps bs z → OverRest z p bs
gaps_over c z q p [] hz h k = absurd k
gaps_over c z q p (b ∷ []) hz h k = absurd k
gaps_over c z q p (b ∷ (d ∷ rest)) hz h (inl t) =
    let dip = dip_of p b d h.0 h.4.1 in
    let up = h.0.up in let on = h.0.on in let out = h.4.0.up in let out_on = h.4.0.on in
    let g = gap_is z b.inner b.outer d.outer hz dip.up out dip.under t in
    by_lt_z (b.inner.x *ℤ z.n) z.x
    (λ (k : (b.inner.x *ℤ z.n) <ℤ z.x).
    let k0 : (b.inner.x *ℤ z.n) ≤ℤ z.x = omega (arith, ints, k) in
    let m = further d.outer.x d.inner.x z.n hz out_on in
    let r = g.high in
    let over = h.4.0.over in
    over_step z p b (d ∷ rest) hz h.0
    (over_own c z b.inner d rest hz h.4.0 h.4.4 record {
      low = k0;
      high = omega (arith, ints, r, m);
    }
    (fan_low_least b.inner d.inner d.outer z out (omega (arith, ints, out, out_on))
    (omega (arith, ints, over)) k0 g.after)))
    (λ (k : z.x ≤ℤ (b.inner.x *ℤ z.n)).
    let m = further p.x b.outer.x z.n hz up in
    let l = g.low in
    let over = h.0.over in
    over_own c z p b (d ∷ rest) hz h.0 h.4 record { low = omega (arith, ints, l, m); high = k }
    (fan_high_least b.inner p b.outer z on (omega (arith, ints, up, on))
    (omega (arith, ints, over)) k g.before))
gaps_over c z q p (b ∷ (d ∷ rest)) hz h (inr k) =
    over_step z p b (d ∷ rest) hz h.0 (gaps_over c z b.outer b.inner (d ∷ rest) hz h.4 k)

pub strip_over : (c : Cap) (z : Vector) (q p : Point) (bs : List Bay) → Place z
    → IsCapStrip c q p bs → InTube p bs z → AtInner NotUnder z p bs
strip_over c z q p bs hz h (inl k) = (bays_over c z q p bs hz h k).chain
strip_over c z q p bs hz h (inr k) = (gaps_over c z q p bs hz h k).chain

-- ---- and back: between the chains is in the strip
settle : (c : Cap) (z : Vector) (q p : Point) (bs : List Bay) → Place z → IsCapStrip c q p bs
    → z.x ≤ℤ (c.chord *ℤ z.n) → ((p.x *ℤ z.n) <ℤ z.x) ⊎ IsSome bs → (p.x *ℤ z.n) ≤ℤ z.x
    → AtInner NotOver z p bs → AtInner NotUnder z p bs → InBays p bs z
settle c z q p [] hz h r (inl l) low a b =
    absurd (let e = ap (λ (x : ℤ). x *ℤ z.n) h.0 in omega (arith, ints, e, r, l))
settle c z q p [] hz h r (inr l) low a b = absurd l
settle c z q p (d ∷ rest) hz h r s low a b =
    by_lt_z (d.inner.x *ℤ z.n) z.x
    (λ (k : (d.inner.x *ℤ z.n) <ℤ z.x). inr
    (settle c z d.outer d.inner rest hz h.4 r (inl k) (omega (arith, ints, k)) a.1 b.1))
    (λ (k : z.x ≤ℤ (d.inner.x *ℤ z.n)).
    let col : InColumn p d.inner z = record { low = low; high = k } in
    let u = a.0 col in
    let v = b.0 col in
    let up = h.0.up in let on = h.0.on in
    inl (on_straight p d.inner d.outer z hz (omega (arith, ints, up, on)) col
    (omega (arith, ints, u, v))))

pub strip_all : (c : Cap) (z : Vector) (p : Point) (b : Bay) (rest : List Bay) → Place z
    → IsCapStrip c p p (b ∷ rest) → (p.x *ℤ z.n) ≤ℤ z.x → z.x ≤ℤ (c.chord *ℤ z.n)
    → AtInner NotUnder z p (b ∷ rest) → IsUnder z p p (b ∷ rest) → InTube p (b ∷ rest) z
strip_all c z p b rest hz h l r over under =
    elim (locate c z p p (b ∷ rest) hz h l r under) [
      | inl f ↦ found_first z p (b ∷ rest) f
      | inr k ↦ inl (settle c z p p (b ∷ rest) hz h r (inr tt) l k over)
    ]
