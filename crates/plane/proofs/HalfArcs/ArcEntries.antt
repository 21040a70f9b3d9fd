-- A segment from inside the circle to outside, not under the chord, has a place in the tube on
-- either side of the circle, or it goes through an end of the half arc.
use Rattle.std.proofs.Common.{◌≡◌, ℤ, pos, ◌+ℤ◌, ◌*ℤ◌, ◌-ℤ◌, ◌<ℤ◌, ◌≤ℤ◌, ◌⊎◌, inl, inr, List, []}
use Rattle.std.proofs.Common.{◌∷◌, refl, arith, ap, sym, ◌∙◌, subst}
use Rattle.std.proofs.lemmas.Int.{ints, by_lt_z}
use Rattle.plane.specs.declared.kinds.Point.{Point}
use Rattle.plane.specs.Forms.Vectors.{Vector, Place, Same, Between, point, mix, side, Edge}
use Rattle.plane.specs.Forms.Arcs.{HalfArc, power, bow, seen}
use Rattle.plane.specs.Tubes.Caps.{Cap, IsCap, InSlab, cap, shape}
use Rattle.plane.specs.Tubes.Bays.{Bay, InTriangle, InBays, InTube, IsTube, OnInner, OnOuter}
use Rattle.plane.specs.Tubes.Bays.{AtEnds}
use Rattle.plane.specs.Tubes.CapStrips.{line, InColumn, IsUnder, AtInner}
use Rattle.plane.proofs.Caps.StripWords.{IsCapStrip, IsDip}
use Rattle.plane.specs.Tubes.Regions.{NotUnder, seen_point, seen_bay, seen_bays}
use Rattle.plane.specs.CurveRuns.Extended.{IsOnWay}
use Rattle.plane.proofs.Algebra.Laws.{product_positive}
use Rattle.plane.proofs.Algebra.Scaling.{product_of_zero}
use Rattle.plane.proofs.Algebra.Ring.{at, plus, times, vars, ring}
use Rattle.plane.proofs.Linear.Signs.{mix_place}
use Rattle.plane.proofs.Windings.Ways.{way_mix, way_start, way_end, way_place}
use Rattle.plane.proofs.Caps.ChordCircle.{cap_slab}
use Rattle.plane.proofs.Caps.CapOver.{slab_low}
use Rattle.plane.proofs.Caps.CapCorners.{on_straight}
use Rattle.plane.proofs.Caps.CapCovers.{left_wall, right_wall}
use Rattle.plane.proofs.Caps.CapCrossings.{Most}
use Rattle.plane.proofs.Caps.CapStrips.{NotOver, Found, found_step, found_first, locate}
use Rattle.plane.proofs.Caps.CapFences.{under_fences, over_inner}
use Rattle.plane.proofs.Caps.CapRegions.{strip_all}
use Rattle.plane.proofs.OneTube.ChainEdges.{EndsAt, ends_at}
use Rattle.plane.proofs.Caps.ChainCrossings.{Rises, last, AtChain, OnChain, chain_met, chain_split}
use Rattle.plane.proofs.Caps.Pictures.{along-from, along-to, bow-from, bow-to, tube_only}
use Rattle.plane.proofs.Caps.Seen.{seen-mix, seen_only, power_most, shape_below, shape_most}
use Rattle.plane.proofs.OneTube.TubeStrips.{tube_cap, tube_strip}
use Rattle.plane.proofs.OneTube.TubeEdges.{inner_place, outer_place}

-- ---- the chains as lists of corners
abbrev pub inners : List Bay → List Point
inners [] = []
inners (b ∷ rest) = b.inner ∷ inners rest

-- the outer corners, then the last inner one
abbrev pub outers : Point → List Bay → List Point
outers p [] = p ∷ []
outers p (b ∷ rest) = b.outer ∷ outers b.inner rest

inner_rises : (c : Cap) (q p : Point) (bs : List Bay) → IsCapStrip c q p bs → Rises p (inners bs)
inner_rises c q p [] h = tt
inner_rises c q p (b ∷ rest) h = (
  (let u = h.0.up in let v = h.0.on in omega (arith, ints, u, v)),
  inner_rises c b.outer b.inner rest h.4,
)

outer_rises : (c : Cap) (q p : Point) (bs : List Bay) → IsCapStrip c q p bs → Rises q (outers p bs)
outer_rises c q p [] h = (h.1, tt)
outer_rises c q p (b ∷ rest) h = (before h.1, outer_rises c b.outer b.inner rest h.4)
  where
    before : (q ≡ p) ⊎ IsDip q p b.outer → q.x <ℤ b.outer.x
    before (inl e) =
        let k = ap (λ (v : Point). v.x) e in let u = h.0.up in omega (arith, ints, k, u)
    before (inr d) = let k = d.up in let u = h.0.up in omega (arith, ints, k, u)

inner_last : (c : Cap) (q p : Point) (bs : List Bay) → IsCapStrip c q p bs
    → (last p (inners bs)).x ≡ c.chord
inner_last c q p [] h = h.0
inner_last c q p (b ∷ rest) h = inner_last c b.outer b.inner rest h.4

outer_last : (c : Cap) (q p : Point) (bs : List Bay) → IsCapStrip c q p bs
    → (last q (outers p bs)).x ≡ c.chord
outer_last c q p [] h = h.0
outer_last c q p (b ∷ rest) h = outer_last c b.outer b.inner rest h.4

inner_tests : (R : Edge → Vector → Type 0) (z : Vector) (p : Point) (bs : List Bay)
    → AtInner R z p bs → AtChain R z p (inners bs)
inner_tests R z p [] h = tt
inner_tests R z p (b ∷ rest) h = (h.0, inner_tests R z b.inner rest h.1)

under_tests : (z : Vector) (q p : Point) (bs : List Bay) → IsUnder z q p bs
    → AtChain (Most side) z q (outers p bs)
under_tests z q p [] h = (h, tt)
under_tests z q p (b ∷ rest) h = (h.0, under_tests z b.outer b.inner rest h.1)

tests_under : (z : Vector) (q p : Point) (bs : List Bay) → AtChain (Most side) z q (outers p bs)
    → IsUnder z q p bs
tests_under z q p [] h = h.0
tests_under z q p (b ∷ rest) h = (h.0, tests_under z b.outer b.inner rest h.1)

-- the places of the chains are in the strip
inner_there : (c : Cap) (q p : Point) (bs : List Bay) (z : Vector) → Place z → IsCapStrip c q p bs
    → OnChain z p (inners bs) → InBays p bs z
inner_there c q p [] z hz h k = absurd k
inner_there c q p (b ∷ rest) z hz h (inl k) =
    inl (on_straight p b.inner b.outer z hz (let u = h.0.up in let v = h.0.on in
    omega (arith, ints, u, v)) k.0 k.1)
inner_there c q p (b ∷ rest) z hz h (inr k) = inr (inner_there c b.outer b.inner rest z hz h.4 k)

turned : (z : Vector) (p q r : Point) → InTriangle z (point p) (point q) (point r)
    → InTriangle z (point r) (point p) (point q)
turned z p q r t = record {
  i = t.k;
  j = t.i;
  k = t.j;
  i_least = t.k_least;
  j_least = t.i_least;
  k_least = t.j_least;
  some = (let s = t.some in omega (arith, ints, s));
  is = record {
    x = ap (λ (v : ℤ). z.x *ℤ v) (one t.i t.j t.k (pos 1) (pos 1) (pos 1)) ∙ t.is.x
        ∙ ap (λ (v : ℤ). v *ℤ z.n) (sym (one t.i t.j t.k p.x q.x r.x));
    y = ap (λ (v : ℤ). z.y *ℤ v) (one t.i t.j t.k (pos 1) (pos 1) (pos 1)) ∙ t.is.y
        ∙ ap (λ (v : ℤ). v *ℤ z.n) (sym (one t.i t.j t.k p.y q.y r.y));
  };
}
  where
    one : (i j k x y z : ℤ)
        → ((k *ℤ z) +ℤ (i *ℤ x)) +ℤ (j *ℤ y) ≡ ((i *ℤ x) +ℤ (j *ℤ y)) +ℤ (k *ℤ z)
    one i j k x y z = omega (arith, ints)

outer_there : (c : Cap) (q p : Point) (bs : List Bay) (z : Vector) → Place z → IsCapStrip c q p bs
    → OnChain z q (outers p bs)
    → Found z q p bs ⊎ (InColumn q p z × (side (line q p) z ≡ pos 0) × (q.x <ℤ p.x))
outer_there c q p [] z hz h (inl k) = inr (k.0, k.1, h.1)
outer_there c q p [] z hz h (inr k) = absurd k
outer_there c q p (b ∷ rest) z hz h (inl k) =
    inl (inl (turned z q b.outer p
    (on_straight q b.outer p z hz (outer_rises c q p (b ∷ rest) h).0 k.0 k.1)))
outer_there c q p (b ∷ rest) z hz h (inr k) = elim (outer_there c b.outer b.inner rest z hz h.4 k) [
  | inl f ↦ inl (inr (found_step z p b rest f))
  | inr e ↦ inl
      (inr (inl (inl
      (turned z b.inner b.outer p
      (swapped z b.outer b.inner p (on_straight b.outer b.inner p z hz e.2 e.0 e.1))))))
]
  where
    swapped : (z : Vector) (p q r : Point) → InTriangle z (point p) (point q) (point r)
        → InTriangle z (point q) (point p) (point r)
    swapped z p q r t = record {
      i = t.j;
      j = t.i;
      k = t.k;
      i_least = t.j_least;
      j_least = t.i_least;
      k_least = t.k_least;
      some = (let s = t.some in omega (arith, ints, s));
      is = record {
        x = ap (λ (v : ℤ). z.x *ℤ v) (one t.i t.j t.k (pos 1) (pos 1) (pos 1)) ∙ t.is.x
            ∙ ap (λ (v : ℤ). v *ℤ z.n) (sym (one t.i t.j t.k p.x q.x r.x));
        y = ap (λ (v : ℤ). z.y *ℤ v) (one t.i t.j t.k (pos 1) (pos 1) (pos 1)) ∙ t.is.y
            ∙ ap (λ (v : ℤ). v *ℤ z.n) (sym (one t.i t.j t.k p.y q.y r.y));
      };
    }
      where
        one : (i j k x y z : ℤ)
            → ((j *ℤ y) +ℤ (i *ℤ x)) +ℤ (k *ℤ z) ≡ ((i *ℤ x) +ℤ (j *ℤ y)) +ℤ (k *ℤ z)
        one i j k x y z = omega (arith, ints)

-- and on the chains of the tube
between_at : (p q : Point) (z : Vector) → Place z → p.x <ℤ q.x → InColumn p q z
    → side (line p q) z ≡ pos 0 → Between z (point p) (point q)
between_at p q z hz h k e =
    let t = on_straight p q q z hz h k e in
    record {
      s = t.i;
      t = t.j +ℤ t.k;
      s_least = t.i_least;
      t_least = (let a = t.j_least in let b = t.k_least in omega (arith, ints, a, b));
      some = (let s = t.some in omega (arith, ints, s));
      is = record {
        x = ap (λ (v : ℤ). z.x *ℤ v) (one t.i t.j t.k (pos 1) (pos 1)) ∙ t.is.x
            ∙ ap (λ (v : ℤ). v *ℤ z.n) (sym (one t.i t.j t.k p.x q.x));
        y = ap (λ (v : ℤ). z.y *ℤ v) (one t.i t.j t.k (pos 1) (pos 1)) ∙ t.is.y
            ∙ ap (λ (v : ℤ). v *ℤ z.n) (sym (one t.i t.j t.k p.y q.y));
      };
    }
  where
    one : (i j k x y : ℤ) → (i *ℤ x) +ℤ ((j +ℤ k) *ℤ y) ≡ ((i *ℤ x) +ℤ (j *ℤ y)) +ℤ (k *ℤ y)
    one i j k x y =
        ring (plus (times (at 0) (at 3)) (times (plus (at 1) (at 2)) (at 4)))
        (plus (plus (times (at 0) (at 3)) (times (at 1) (at 4))) (times (at 2) (at 4)))
        (vars (i ∷ j ∷ k ∷ x ∷ y ∷ [])) refl

between_only : (h : HalfArc) (z : Vector) (p q : Point) → IsCap (cap h)
    → Between (seen h z) (point (seen_point h p)) (point (seen_point h q))
    → Between z (point p) (point q)
between_only h z p q hc b = record {
  s = b.s;
  t = b.t;
  s_least = b.s_least;
  t_least = b.t_least;
  some = b.some;
  is = seen_only h z (mix b.s (point p) b.t (point q)) hc
      (subst (λ (v : Vector). Same (seen h z) v)
      (sym (seen-mix h b.s (point p) b.t (point q))) b.is);
}

inner_on : (h : HalfArc) (p : Point) (bs : List Bay) (z : Vector) → IsCap (cap h) → Place z
    → Rises (seen_point h p) (inners (seen_bays h bs))
    → OnChain (seen h z) (seen_point h p) (inners (seen_bays h bs)) → OnInner z p bs
inner_on h p [] z hc hz up k = absurd k
inner_on h p (b ∷ rest) z hc hz up (inl k) =
    inl (between_only h z p b.inner hc
    (between_at (seen_point h p) (seen_point h b.inner) (seen h z) hz up.0 k.0 k.1))
inner_on h p (b ∷ rest) z hc hz up (inr k) = inr (inner_on h b.inner rest z hc hz up.1 k)

outer_on : (h : HalfArc) (q p e : Point) (bs : List Bay) (z : Vector) → IsCap (cap h) → Place z
    → EndsAt p e bs → Rises (seen_point h q) (outers (seen_point h p) (seen_bays h bs))
    → OnChain (seen h z) (seen_point h q) (outers (seen_point h p) (seen_bays h bs))
    → OnOuter z q e bs
outer_on h q p e [] z hc hz end up (inl k) =
    subst (λ (v : Point). Between z (point q) (point v)) end
    (between_only h z q p hc
    (between_at (seen_point h q) (seen_point h p) (seen h z) hz up.0 k.0 k.1))
outer_on h q p e [] z hc hz end up (inr k) = absurd k
outer_on h q p e (b ∷ rest) z hc hz end up (inl k) =
    inl (between_only h z q b.outer hc
    (between_at (seen_point h q) (seen_point h b.outer) (seen h z) hz up.0 k.0 k.1))
outer_on h q p e (b ∷ rest) z hc hz end up (inr k) =
    inr (outer_on h b.outer b.inner e rest z hc hz end up.1 k)

-- ---- the part of the segment in the slab
abbrev AtCorner : Cap → Vector → Type 0
AtCorner c z = ((z.x ≡ pos 0) × (z.y ≡ pos 0)) ⊎ ((z.x ≡ c.chord *ℤ z.n) × (z.y ≡ pos 0))

record Clipped (c : Cap) (u v : Vector) : Type 0 where
  at : Vector
  way : IsOnWay u v at
  slab : InSlab c at
  high : pos 0 ≤ℤ at.y
  outside : (pos 0 <ℤ shape c at) ⊎ AtCorner c at

-- on the slab's walls all that is over the chord's line is outside
wall_high : (c : Cap) (z : Vector) → IsCap c → Place z → z.x *ℤ (z.x -ℤ (c.chord *ℤ z.n)) ≡ pos 0
    → pos 0 <ℤ z.y → pos 0 <ℤ shape c z
unfolding shape
wall_high c z hc hz e hy =
    let a = product_of_zero c.size (z.x *ℤ (z.x -ℤ (c.chord *ℤ z.n))) e in
    let k = product_positive c.sag z.n hc.sag hz in
    let b = product_positive z.y (z.y +ℤ (c.sag *ℤ z.n)) hy (omega (arith, ints, k, hy)) in
    omega (arith, ints, a, b)

clip : (c : Cap) (u v : Vector) → IsCap c → Place u → Place v → InSlab c u → pos 0 ≤ℤ u.y
    → pos 0 ≤ℤ v.y → pos 0 <ℤ shape c v → Clipped c u v
clip c u v hc hu hv slab uy vy out =
    by_lt_z v.x (pos 0)
    (λ (l : v.x <ℤ pos 0). at_left l)
    (λ (l : pos 0 ≤ℤ v.x). by_lt_z (c.chord *ℤ v.n) v.x
    (λ (r : (c.chord *ℤ v.n) <ℤ v.x). at_right r)
    (λ (r : v.x ≤ℤ (c.chord *ℤ v.n)). record {
      at = v;
      way = way_end u v;
      slab = record { low = l; high = r };
      high = vy;
      outside = inl out;
    }))
  where
    ul : pos 0 ≤ℤ u.x
    ul = slab.low

    ur : u.x ≤ℤ (c.chord *ℤ u.n)
    ur = slab.high

    at_left : v.x <ℤ pos 0 → Clipped c u v
    at_left l =
        let s = pos 0 -ℤ v.x in
        let t = u.x in
        let hs : pos 0 ≤ℤ s = omega (arith, ints, l) in
        let some : pos 0 <ℤ (s +ℤ t) = omega (arith, ints, l, ul) in
        let z = mix s u t v in
        let hz = mix_place s u t v hu hv hs ul some in
        let e = left_wall u.x v.x in
        let m = product_positive c.chord z.n hc.chord hz in
        let high = slab_low s t u.y v.y hs ul uy vy in
        record {
          at = z;
          way = record { s = s; t = t; s_least = hs; t_least = ul; some = some; is = refl };
          slab = record { low = zero_least _ e; high = zero_most _ _ e m };
          high = high;
          outside = by_lt_z (pos 0) z.y
              (λ (k : pos 0 <ℤ z.y). inl
              (wall_high c z hc hz (ap (λ (x : ℤ). x *ℤ (z.x -ℤ (c.chord *ℤ z.n))) e
              ∙ omega (arith, ints)) k))
              (λ (k : z.y ≤ℤ pos 0). inr (inl (e, omega (arith, ints, high, k))));
        }
      where
        zero_least : (x : ℤ) → x ≡ pos 0 → pos 0 ≤ℤ x
        zero_least x e = omega (arith, ints)

        zero_most : (x m : ℤ) → x ≡ pos 0 → pos 0 <ℤ m → x ≤ℤ m
        zero_most x m e h = omega (arith, ints)

    at_right : (c.chord *ℤ v.n) <ℤ v.x → Clipped c u v
    at_right r =
        let s = v.x -ℤ (c.chord *ℤ v.n) in
        let t = (c.chord *ℤ u.n) -ℤ u.x in
        let hs : pos 0 ≤ℤ s = omega (arith, ints, r) in
        let ht : pos 0 ≤ℤ t = omega (arith, ints, ur) in
        let some : pos 0 <ℤ (s +ℤ t) = omega (arith, ints, r, ur) in
        let z = mix s u t v in
        let hz = mix_place s u t v hu hv hs ht some in
        let e = right_wall c.chord u.x u.n v.x v.n in
        let m = product_positive c.chord z.n hc.chord hz in
        let high = slab_low s t u.y v.y hs ht uy vy in
        record {
          at = z;
          way = record { s = s; t = t; s_least = hs; t_least = ht; some = some; is = refl };
          slab = record { low = end_least _ _ e m; high = end_most _ _ e };
          high = high;
          outside = by_lt_z (pos 0) z.y
              (λ (k : pos 0 <ℤ z.y). inl
              (wall_high c z hc hz (product_of_zero z.x (z.x -ℤ (c.chord *ℤ z.n)) e) k))
              (λ (k : z.y ≤ℤ pos 0). inr (inr (equal _ _ e, omega (arith, ints, high, k))));
        }
      where
        end_least : (x m : ℤ) → x -ℤ m ≡ pos 0 → pos 0 <ℤ m → pos 0 ≤ℤ x
        end_least x m e h = omega (arith, ints)

        end_most : (x m : ℤ) → x -ℤ m ≡ pos 0 → x ≤ℤ m
        end_most x m e = omega (arith, ints)

        equal : (x m : ℤ) → x -ℤ m ≡ pos 0 → x ≡ m
        equal x m e = omega (arith, ints)

-- ---- the entries
-- y is a place of the segment in the tube and strictly inside the circle
pub record IsInnerEntry (h : HalfArc) (bs : List Bay) (p q y : Vector) : Type 0 where
  pub way : IsOnWay p q y
  pub there : InTube h.from bs y
  pub inside : power h y <ℤ pos 0

pub record IsOuterEntry (h : HalfArc) (bs : List Bay) (p q y : Vector) : Type 0 where
  pub way : IsOnWay p q y
  pub there : InTube h.from bs y
  pub outside : pos 0 <ℤ power h y

-- the segment goes through an end of the half arc
pub record IsThroughEnd (h : HalfArc) (p q y : Vector) : Type 0 where
  pub way : IsOnWay p q y
  pub end : AtEnds h y

-- a place of the segment's picture
real_of : (h : HalfArc) (u v y : Vector) → IsOnWay (seen h u) (seen h v) y
    → (x : Vector) × IsOnWay u v x × (seen h x ≡ y)
real_of h u v y w = (
  mix w.s u w.t v,
  record {
    s = w.s;
    t = w.t;
    s_least = w.s_least;
    t_least = w.t_least;
    some = w.some;
    is = refl;
  },
  seen-mix h w.s u w.t v ∙ sym w.is,
)

module _ (h : HalfArc) (b : Bay) (rest : List Bay) (t : IsTube h (b ∷ rest)) (u v : Vector)
    (hu : Place u) (hv : Place v)
    (uy : pos 0 ≤ℤ bow h u) (vy : pos 0 ≤ℤ bow h v) (inside : power h u <ℤ pos 0)
    (outside : pos 0 <ℤ power h v) where
  hc : IsCap (cap h)
  hc = tube_cap h (b ∷ rest) t

  abbrev P : Point
  P = seen_point h h.from

  abbrev B : List Bay
  B = seen_bays h (b ∷ rest)

  st : IsCapStrip (cap h) P P B
  st = tube_strip h b rest t

  abbrev U : Vector
  U = seen h u

  abbrev V : Vector
  V = seen h v

  shape_u : shape (cap h) U ≤ℤ pos 0
  shape_u = let k = shape_below h u hc inside in omega (arith, ints, k)

  shape_high : (z : Vector) → pos 0 <ℤ power h z → pos 0 <ℤ shape (cap h) (seen h z)
  shape_high z k =
      by_lt_z (pos 0) (shape (cap h) (seen h z)) (λ l. l)
      (λ (l : shape (cap h) (seen h z) ≤ℤ pos 0). let m = power_most h z hc l in
      absurd (omega (arith, ints, k, m)))

  power_high : (z : Vector) → pos 0 <ℤ shape (cap h) (seen h z) → pos 0 <ℤ power h z
  power_high z k =
      by_lt_z (pos 0) (power h z) (λ l. l)
      (λ (l : power h z ≤ℤ pos 0). let m = shape_most h z hc l in
      absurd (omega (arith, ints, k, m)))

  slab : InSlab (cap h) U
  slab = cap_slab (cap h) U hc hu uy shape_u

  from_low : (z : Vector) → pos 0 ≤ℤ z.x → (P.x *ℤ z.n) ≤ℤ z.x
  from_low z l = let e = ap (λ (x : ℤ). x *ℤ z.n) (along-from h) in omega (arith, ints, e, l)

  to_high : (p : Point) (z : Vector) → p.x ≡ (cap h).chord → z.x ≤ℤ ((cap h).chord *ℤ z.n)
      → z.x ≤ℤ (p.x *ℤ z.n)
  to_high p z e l = subst (λ (x : ℤ). z.x ≤ℤ (x *ℤ z.n)) (sym e) l

  k : Clipped (cap h) U V
  k = clip (cap h) U V hc hu hv slab uy vy (shape_high v outside)

  abbrev W : Vector
  W = k.at

  hw : Place W
  hw = way_place U V W hu hv k.way

  place_of : (x : Vector) → IsOnWay u v x → Place x
  place_of x w = way_place u v x hu hv w

  -- at a corner of the slab stands an end
  corner_end : AtCorner (cap h) W → (y : Vector) × IsThroughEnd h u v y
  corner_end c = let x = real_of h u v W k.way in (x.0, record { way = x.1; end = end x.0 x.2 c })
    where
      times_one : (a : ℤ) → a *ℤ pos 1 ≡ a
      times_one a = omega (arith, ints)

      end : (x : Vector) → seen h x ≡ W → AtCorner (cap h) W → AtEnds h x
      end x e (inl c) = inl (seen_only h x (point h.from) hc (record {
        x = ap (λ (z : Vector). z.x *ℤ pos 1) e ∙ times_one W.x ∙ c.0
            ∙ sym (product_zero (along-from h));
        y = ap (λ (z : Vector). z.y *ℤ pos 1) e ∙ times_one W.y ∙ c.1
            ∙ sym (product_zero (bow-from h));
      }))
        where
          product_zero : {a : ℤ} → a ≡ pos 0 → a *ℤ x.n ≡ pos 0
          product_zero {a} e = ap (λ (y : ℤ). y *ℤ x.n) e ∙ omega (arith, ints)
      end x e (inr c) = inr (seen_only h x (point h.to) hc (record {
        x = ap (λ (z : Vector). z.x *ℤ pos 1) e ∙ times_one W.x ∙ c.0
            ∙ ap (λ (z : Vector). (cap h).chord *ℤ z.n) (sym e)
            ∙ ap (λ (y : ℤ). y *ℤ x.n) (sym (along-to h));
        y = ap (λ (z : Vector). z.y *ℤ pos 1) e ∙ times_one W.y ∙ c.1
            ∙ sym (product_zero (bow-to h));
      }))
        where
          product_zero : {a : ℤ} → a ≡ pos 0 → a *ℤ x.n ≡ pos 0
          product_zero {a} e = ap (λ (y : ℤ). y *ℤ x.n) e ∙ omega (arith, ints)

  part : (y : Vector) → IsOnWay U W y → IsOnWay U V y
  part y w = subst (λ (x : Vector). IsOnWay U V x) (sym w.is)
      (way_mix U V U W w.s w.t w.s_least w.t_least w.some (way_start U V) k.way)

  pub inner_entry : ((y : Vector) × IsInnerEntry h (b ∷ rest) u v y)
      ⊎ ((y : Vector) × IsThroughEnd h u v y)
  inner_entry = elim k.outside [
    | inr c ↦ inr (corner_end c)
    | inl out ↦ elim (locate (cap h) U P P B hu st (from_low U slab.low) slab.high
        (under_fences (cap h) U P P B hc hu st uy shape_u)) [
          | inl f ↦ inl (
            u,
            record {
              way = way_start u v;
              there = tube_only h h.from (b ∷ rest) u hc (found_first U P B f);
              inside = inside;
            },
          )
          | inr under ↦
              let e = inner_last (cap h) P P B st in
              let rises = inner_rises (cap h) P P B st in
              let m = chain_met P (seen_point h b.inner) (inners (seen_bays h rest)) U W hu hw rises
              (from_low U slab.low) (to_high (last P (inners B)) U e slab.high) (from_low W k.slab.low)
              (to_high (last P (inners B)) W e k.slab.high)
              (inner_tests NotOver U P B under)
              (inner_tests NotUnder W P B
              (over_inner (cap h) W P P B hc hw st k.high (weak out))) in
              let x = real_of h u v m.at (part m.at m.way) in
              let X = place_of x.0 x.1 in
              let on = subst (λ (z : Vector). OnChain z P (inners B)) (sym x.2) m.on in
              elim (inner_place h (b ∷ rest) x.0 t X (inner_on h h.from (b ∷ rest) x.0 hc X rises on)) [
                | inl low ↦ inl (
                  x.0,
                  record {
                    way = x.1;
                    there = tube_only h h.from (b ∷ rest) x.0 hc
                        (inl (inner_there (cap h) P P B (seen h x.0) X st on));
                    inside = low;
                  },
                )
                | inr end ↦ inr (x.0, record { way = x.1; end = end })
              ]
        ]
  ]
    where
      weak : pos 0 <ℤ shape (cap h) W → pos 0 ≤ℤ shape (cap h) W
      weak k = omega (arith, ints, k)

  pub outer_entry : ((y : Vector) × IsOuterEntry h (b ∷ rest) u v y)
      ⊎ ((y : Vector) × IsThroughEnd h u v y)
  outer_entry = elim k.outside [
    | inr c ↦ inr (corner_end c)
    | inl out ↦ elim (chain_split W P (outers P B) hw (outer_rises (cap h) P P B st)) [
      | inl under ↦
          let x = real_of h u v W k.way in
          let w = strip_all (cap h) W P (seen_bay h b) (seen_bays h rest) hw st
          (from_low W k.slab.low) k.slab.high
          (over_inner (cap h) W P P B hc hw st k.high (weak out)) (tests_under W P P B under) in
          inl (
            x.0,
            record {
              way = x.1;
              there = tube_only h h.from (b ∷ rest) x.0 hc
                  (subst (λ (z : Vector). InTube P B z) (sym x.2) w);
              outside = power_high x.0
                  (subst (λ (z : Vector). pos 0 <ℤ shape (cap h) z) (sym x.2) out);
            },
          )
      | inr over ↦
          let e = outer_last (cap h) P P B st in
          let rises = outer_rises (cap h) P P B st in
          let m = chain_met P (seen_point h b.outer)
          (outers (seen_point h b.inner) (seen_bays h rest)) U W hu hw rises
          (from_low U slab.low) (to_high (last P (outers P B)) U e slab.high)
          (from_low W k.slab.low) (to_high (last P (outers P B)) W e k.slab.high)
          (under_tests U P P B (under_fences (cap h) U P P B hc hu st uy shape_u)) over in
          let x = real_of h u v m.at (part m.at m.way) in
          let X = place_of x.0 x.1 in
          let on = subst (λ (z : Vector). OnChain z P (outers P B)) (sym x.2) m.on in
          elim (outer_place h (b ∷ rest) x.0 t X
          (outer_on h h.from h.from h.to (b ∷ rest) x.0 hc X
          (ends_at h.to h.from b rest t.ends) rises on)) [
            | inl high ↦ inl (
              x.0,
              record {
                way = x.1;
                there = tube_only h h.from (b ∷ rest) x.0 hc (there (seen h x.0) X on);
                outside = high;
              },
            )
            | inr end ↦ inr (x.0, record { way = x.1; end = end })
          ]
    ]
  ]
    where
      weak : pos 0 <ℤ shape (cap h) W → pos 0 ≤ℤ shape (cap h) W
      weak k = omega (arith, ints, k)

      there : (z : Vector) → Place z → OnChain z P (outers P B) → InTube P B z
      there z Z on = elim (outer_there (cap h) P P B z Z st on) [
        | inl f ↦ found_first z P B f
        | inr f ↦ absurd (let e = f.2 in omega (arith, ints, e))
      ]
