-- Of a tube: a segment that hits its half arc has a place in it, and keeps its side where it does
-- not hit.
use Rattle.std.proofs.Common.{◌≡◌, ℤ, pos, ◌+ℤ◌, ◌*ℤ◌, ◌<ℤ◌, ◌≤ℤ◌, List, [], ◌∷◌, refl, arith, ap}
use Rattle.std.proofs.Common.{◌∙◌, subst, sym}
use Rattle.std.proofs.lemmas.Int.{ints}
use Rattle.plane.specs.Forms.Vectors.{Vector, Place, Between, mix}
use Rattle.plane.specs.Forms.Arcs.{HalfArc, power, bow, seen, SameSign}
use Rattle.plane.proofs.HalfArcs.HitWords.{HitsArc}
use Rattle.plane.specs.Tubes.Caps.{cap}
use Rattle.plane.specs.Tubes.Regions.{IsRegion, seen_point, seen_bays}
use Rattle.plane.specs.Tubes.Bays.{Bay, InTube, IsTube, MeetsTube}
use Rattle.plane.proofs.Algebra.Laws.{product_positive, product_nonnegative, weight_at_most}
use Rattle.plane.proofs.Linear.Signs.{mix_place}
use Rattle.plane.proofs.Algebra.Ring.{at, plus, times, vars, ring}
use Rattle.plane.proofs.Caps.Seen.{seen-mix, shape_most, shape_least}
use Rattle.plane.proofs.Caps.Signed.{sign_kept, over_away}
use Rattle.plane.proofs.Caps.Pictures.{along-from, tube_only, tube_seen}
use Rattle.plane.proofs.Caps.CapRegions.{strip_over, strip_all}
use Rattle.plane.proofs.Caps.UnderChains.{strip_under}
use Rattle.plane.proofs.Caps.CapCovers.{strip_cover}
use Rattle.plane.proofs.OneTube.Chains.{outside_high}
use Rattle.plane.proofs.OneTube.TubeStrips.{tube_cap, tube_strip, in_tube_over}

-- ---- a mix of two places of a segment is a place of it
between_mix : (p q u v : Vector) (s t : ℤ) → Place p → Place q → Place u → Place v → Between u p q
    → Between v p q → pos 0 ≤ℤ s → pos 0 ≤ℤ t → pos 0 <ℤ (s +ℤ t) → Between (mix s u t v) p q
between_mix p q u v s t hp hq hu hv bu bv hs ht some = record {
  s = i;
  t = j;
  s_least = sum_least _ _ (weight s mv.n u.n bu.s hs hmv hu bu.s_least)
      (weight t mu.n v.n bv.s ht hmu hv bv.s_least);
  t_least = sum_least _ _ (weight s mv.n u.n bu.t hs hmv hu bu.t_least)
      (weight t mu.n v.n bv.t ht hmu hv bv.t_least);
  some = total;
  is = record {
    x = across (mix s u t v).x (mix i p j q).x (mix s u t v).n (mix i p j q).n ex en;
    y = across (mix s u t v).y (mix i p j q).y (mix s u t v).n (mix i p j q).n ey en;
  };
}
  where
    mu : Vector
    mu = mix bu.s p bu.t q

    mv : Vector
    mv = mix bv.s p bv.t q

    hmu : Place mu
    hmu = mix_place bu.s p bu.t q hp hq bu.s_least bu.t_least bu.some

    hmv : Place mv
    hmv = mix_place bv.s p bv.t q hp hq bv.s_least bv.t_least bv.some

    k : ℤ
    k = mu.n *ℤ mv.n

    i : ℤ
    i = (s *ℤ ((mv.n *ℤ u.n) *ℤ bu.s)) +ℤ (t *ℤ ((mu.n *ℤ v.n) *ℤ bv.s))

    j : ℤ
    j = (s *ℤ ((mv.n *ℤ u.n) *ℤ bu.t)) +ℤ (t *ℤ ((mu.n *ℤ v.n) *ℤ bv.t))

    sum_least : (a b : ℤ) → pos 0 ≤ℤ a → pos 0 ≤ℤ b → pos 0 ≤ℤ (a +ℤ b)
    sum_least a b h k = omega (arith, ints, h, k)

    weight : (a b c d : ℤ) → pos 0 ≤ℤ a → pos 0 <ℤ b → pos 0 <ℤ c → pos 0 ≤ℤ d
        → pos 0 ≤ℤ (a *ℤ ((b *ℤ c) *ℤ d))
    weight a b c d ha hb hc hd =
        let bc = product_positive b c hb hc in
        product_nonnegative a ((b *ℤ c) *ℤ d) ha
        (product_nonnegative (b *ℤ c) d (omega (arith, ints, bc)) hd)

    heavy : (a b c d : ℤ) → pos 0 ≤ℤ a → pos 0 <ℤ b → pos 0 <ℤ c → pos 0 <ℤ d
        → a ≤ℤ (a *ℤ ((b *ℤ c) *ℤ d))
    heavy a b c d ha hb hc hd =
        weight_at_most a ((b *ℤ c) *ℤ d) ha
        (product_positive (b *ℤ c) d (product_positive b c hb hc) hd)

    total : pos 0 <ℤ (i +ℤ j)
    total =
        let a = heavy s mv.n u.n (bu.s +ℤ bu.t) hs hmv hu bu.some in
        let b = heavy t mu.n v.n (bv.s +ℤ bv.t) ht hmu hv bv.some in
        let e = ring
        (plus (plus (times (at 0) (times (times (at 1) (at 2)) (at 3)))
        (times (at 5) (times (times (at 6) (at 7)) (at 8))))
        (plus (times (at 0) (times (times (at 1) (at 2)) (at 4)))
        (times (at 5) (times (times (at 6) (at 7)) (at 9)))))
        (plus (times (at 0) (times (times (at 1) (at 2)) (plus (at 3) (at 4))))
        (times (at 5) (times (times (at 6) (at 7)) (plus (at 8) (at 9)))))
        (vars (s ∷ mv.n ∷ u.n ∷ bu.s ∷ bu.t ∷ t ∷ mu.n ∷ v.n ∷ bv.s ∷ bv.t ∷ [])) refl in
        positive_sum _ _ _ e a b some
      where
        positive_sum : (x y z : ℤ) → x ≡ y +ℤ z → s ≤ℤ y → t ≤ℤ z → pos 0 <ℤ (s +ℤ t) → pos 0 <ℤ x
        positive_sum x y z e a b c = omega (arith, ints, e, a, b, c)

    -- one entry: u m = x(mu) n where u is that place
    entry : (s t m n un vn us ut vs vt x y ux vx : ℤ) → ux *ℤ m ≡ ((us *ℤ x) +ℤ (ut *ℤ y)) *ℤ un
        → vx *ℤ n ≡ ((vs *ℤ x) +ℤ (vt *ℤ y)) *ℤ vn
        → (((s *ℤ ((n *ℤ un) *ℤ us)) +ℤ (t *ℤ ((m *ℤ vn) *ℤ vs))) *ℤ x)
        +ℤ (((s *ℤ ((n *ℤ un) *ℤ ut)) +ℤ (t *ℤ ((m *ℤ vn) *ℤ vt))) *ℤ y)
        ≡ (m *ℤ n) *ℤ ((s *ℤ ux) +ℤ (t *ℤ vx))
    entry s t m n un vn us ut vs vt x y ux vx e f =
        let S = at 0 in
        let T = at 1 in
        let M = at 2 in
        let N = at 3 in
        let UN = at 4 in
        let VN = at 5 in
        let US = at 6 in
        let UT = at 7 in let VS = at 8 in let VT = at 9 in let X = at 10 in let Y = at 11 in
        let i1 = ring
        (plus (times (plus (times S (times (times N UN) US)) (times T (times (times M VN) VS)))
        X) (times (plus (times S (times (times N UN) UT)) (times T (times (times M VN) VT))) Y))
        (plus (times (times S N) (times (plus (times US X) (times UT Y)) UN))
        (times (times T M) (times (plus (times VS X) (times VT Y)) VN)))
        (vars (s ∷ t ∷ m ∷ n ∷ un ∷ vn ∷ us ∷ ut ∷ vs ∷ vt ∷ x ∷ y ∷ [])) refl in
        let i2 = ring (times (times M N) (plus (times S (at 4)) (times T (at 5))))
        (plus (times (times S N) (times (at 4) M)) (times (times T M) (times (at 5) N)))
        (vars (s ∷ t ∷ m ∷ n ∷ ux ∷ vx ∷ [])) refl in
        let g = ap (λ (w : ℤ). (s *ℤ n) *ℤ w) e in
        let h = ap (λ (w : ℤ). (t *ℤ m) *ℤ w) f in
        chain _ _ _ _ _ _ i1 i2 g h
      where
        chain : (x y a b c d : ℤ) → x ≡ a +ℤ b → y ≡ c +ℤ d → c ≡ a → d ≡ b → x ≡ y
        chain x y a b c d e f g h = omega (arith, ints, e, f, g, h)

    ex : (mix i p j q).x ≡ k *ℤ (mix s u t v).x
    ex = entry s t mu.n mv.n u.n v.n bu.s bu.t bv.s bv.t p.x q.x u.x v.x bu.is.x bv.is.x

    ey : (mix i p j q).y ≡ k *ℤ (mix s u t v).y
    ey = entry s t mu.n mv.n u.n v.n bu.s bu.t bv.s bv.t p.y q.y u.y v.y bu.is.y bv.is.y

    comm : (a b : ℤ) → a *ℤ b ≡ b *ℤ a
    comm a b = ring (times (at 0) (at 1)) (times (at 1) (at 0)) (vars (a ∷ b ∷ [])) refl

    en : (mix i p j q).n ≡ k *ℤ (mix s u t v).n
    en = entry s t mu.n mv.n u.n v.n bu.s bu.t bv.s bv.t p.n q.n u.n v.n (comm u.n mu.n)
        (comm v.n mv.n)

    across : (x y n m : ℤ) → y ≡ k *ℤ x → m ≡ k *ℤ n → x *ℤ m ≡ y *ℤ n
    across x y n m e f =
        ap (λ (w : ℤ). x *ℤ w) f
        ∙ ring (times (at 0) (times (at 1) (at 2))) (times (times (at 1) (at 0)) (at 2))
        (vars (x ∷ k ∷ n ∷ [])) refl
        ∙ ap (λ (w : ℤ). w *ℤ n) (sym e)

-- ---- a segment that hits
pub tube_covers : (h : HalfArc) (bs : List Bay) (p q : Vector) → IsTube h bs → Place p → Place q
    → HitsArc h p q → MeetsTube h bs p q
tube_covers h [] p q t hp hq k = absurd t.some
tube_covers h (b ∷ rest) p q t hp hq k =
    let hc = tube_cap h (b ∷ rest) t in
    let r = strip_cover (cap h) (seen_point h h.from) (record {
      outer = seen_point h b.outer;
      inner = seen_point h b.inner;
    }) (seen_bays h rest) (seen h k.u) (seen h k.v) hc
    (tube_strip h b rest t) (along-from h) k.u_place k.v_place
    k.u_away k.v_away (shape_most h k.u hc k.u_in) (shape_least h k.v hc k.v_out) in
    record {
      z = mix r.s k.u r.t k.v;
      place = mix_place r.s k.u r.t k.v k.u_place k.v_place r.s_least r.t_least r.some;
      between = between_mix p q k.u k.v r.s r.t hp hq k.u_place k.v_place k.u_between k.v_between
          r.s_least r.t_least r.some;
      there = tube_only h h.from (b ∷ rest) (mix r.s k.u r.t k.v) hc
          (subst (λ (z : Vector). InTube (seen_point h h.from) (seen_bays h (b ∷ rest)) z)
          (sym (seen-mix h r.s k.u r.t k.v)) r.there);
    }

-- ---- a segment that does not hit
pub tube_keeps_sign : (h : HalfArc) (bs : List Bay) (p q : Vector) → IsTube h bs → Place p → Place q
    → InTube h.from bs p → InTube h.from bs q → (HitsArc h p q → ⊥) → SameSign h p q
tube_keeps_sign h [] p q t hp hq ip iq miss = absurd t.some
tube_keeps_sign h (b ∷ rest) p q t hp hq ip iq miss =
    sign_kept h p q (tube_cap h (b ∷ rest) t) hp hq (in_tube_over h b rest p t hp ip)
    (in_tube_over h b rest q t hq iq) miss

-- ---- the region between the chains
pub tube_region : (h : HalfArc) (bs : List Bay) (z : Vector) → IsTube h bs → Place z
    → InTube h.from bs z → IsRegion h bs z
tube_region h [] z t hz k = absurd t.some
tube_region h (b ∷ rest) z t hz k =
    let p = seen_point h h.from in
    let s = tube_strip h b rest t in
    let f = tube_seen h h.from (b ∷ rest) z k in
    record {
      slab = (in_tube_over h b rest z t hz k).slab;
      over = strip_over (cap h) (seen h z) p p (seen_bays h (b ∷ rest)) hz s f;
      under = strip_under (cap h) (seen h z) p p (seen_bays h (b ∷ rest)) hz s f;
    }

pub region_tube : (h : HalfArc) (bs : List Bay) (z : Vector) → IsTube h bs → Place z
    → IsRegion h bs z → InTube h.from bs z
region_tube h [] z t hz r = absurd t.some
region_tube h (b ∷ rest) z t hz r =
    let l = r.slab.low in
    let e = ap (λ (x : ℤ). x *ℤ z.n) (along-from h) in
    tube_only h h.from (b ∷ rest) z (tube_cap h (b ∷ rest) t)
    (strip_all (cap h) (seen h z) (seen_point h h.from) (record {
      outer = seen_point h b.outer;
      inner = seen_point h b.inner;
    }) (seen_bays h rest) hz (tube_strip h b rest t)
    (omega (arith, ints, e, l)) r.slab.high r.over r.under)

-- in the tube, what is not inside is not under the chord's line, and what is outside is over it
pub tube_away : (h : HalfArc) (bs : List Bay) (z : Vector) → IsTube h bs → Place z
    → InTube h.from bs z → pos 0 ≤ℤ power h z → pos 0 ≤ℤ bow h z
tube_away h [] z t hz k l = absurd t.some
tube_away h (b ∷ rest) z t hz k l =
    over_away h z (tube_cap h (b ∷ rest) t) (in_tube_over h b rest z t hz k) l

pub tube_high : (h : HalfArc) (bs : List Bay) (z : Vector) → IsTube h bs → Place z
    → InTube h.from bs z → pos 0 <ℤ power h z → pos 0 <ℤ bow h z
tube_high h [] z t hz k l = absurd t.some
tube_high h (b ∷ rest) z t hz k l =
    outside_high h z (tube_cap h (b ∷ rest) t) (in_tube_over h b rest z t hz k) l
