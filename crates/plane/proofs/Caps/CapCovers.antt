-- In the cap's own picture: from a place that is not outside to one that is not inside, over the
-- chord's line, a place of the segment is in the strip.
use Rattle.std.proofs.Common.{◌≡◌, ℤ, pos, ◌+ℤ◌, ◌*ℤ◌, ◌-ℤ◌, ◌<ℤ◌, ◌≤ℤ◌, inl, inr, List, [], ◌∷◌}
use Rattle.std.proofs.Common.{refl, arith, ap, ◌∙◌, subst, sym}
use Rattle.std.proofs.lemmas.Int.{ints, by_lt_z}
use Rattle.plane.specs.declared.kinds.Point.{Point}
use Rattle.plane.specs.Forms.Vectors.{Vector, Place, mix, Edge, side}
use Rattle.plane.specs.Tubes.Caps.{Cap, IsCap, shape, InSlab}
use Rattle.plane.specs.Tubes.Bays.{Bay, InBays, InTube}
use Rattle.plane.specs.Tubes.CapStrips.{line, AtInner}
use Rattle.plane.proofs.Caps.StripWords.{IsCapStrip}
use Rattle.plane.specs.Tubes.Regions.{NotUnder}
use Rattle.plane.proofs.Algebra.Laws.{product_positive, product_nonnegative, weight_at_most}
use Rattle.plane.proofs.Algebra.Laws.{product-sum}
use Rattle.plane.proofs.Algebra.Scaling.{product_of_zero}
use Rattle.plane.proofs.Linear.Signs.{mix_place}
use Rattle.plane.proofs.Algebra.Ring.{at, num, plus, minus, times, vars, ring}
use Rattle.plane.proofs.Caps.ChordCircle.{cap_slab}
use Rattle.plane.proofs.Caps.CapStrips.{NotOver, found_first, locate}
use Rattle.plane.proofs.Caps.CapFences.{under_fences, over_inner}
use Rattle.plane.proofs.Caps.CapCrossings.{Most, Least, crosses, side_tilt, under_tilt, under_side}
use Rattle.plane.proofs.Linear.Clear.{vector_eq, mix_start, mix_back}
use Rattle.plane.proofs.Caps.CapOver.{slab_low}

-- a mix of u and v that is in the strip
pub record Reaches (p : Point) (bs : List Bay) (u v : Vector) : Type 0 where
  pub s : ℤ
  pub t : ℤ
  pub s_least : pos 0 ≤ℤ s
  pub t_least : pos 0 ≤ℤ t
  pub some : pos 0 <ℤ (s +ℤ t)
  pub there : InTube p bs (mix s u t v)

-- ---- the part of the segment in the slab
pub record Clipped (c : Cap) (u v : Vector) : Type 0 where
  pub s : ℤ
  pub t : ℤ
  pub s_least : pos 0 ≤ℤ s
  pub t_least : pos 0 ≤ℤ t
  pub some : pos 0 <ℤ (s +ℤ t)
  pub slab : InSlab c (mix s u t v)
  pub high : pos 0 ≤ℤ (mix s u t v).y
  pub outside : pos 0 ≤ℤ shape c (mix s u t v)

-- on the slab's walls nothing over the chord's line is inside
wall_outside : (c : Cap) (z : Vector) → IsCap c → Place z → z.x *ℤ (z.x -ℤ (c.chord *ℤ z.n)) ≡ pos 0
    → pos 0 ≤ℤ z.y → pos 0 ≤ℤ shape c z
unfolding shape
wall_outside c z hc hz e hy =
    let a = product_of_zero c.size (z.x *ℤ (z.x -ℤ (c.chord *ℤ z.n))) e in
    let k = product_positive c.sag z.n hc.sag hz in
    let b = product_nonnegative z.y (z.y +ℤ (c.sag *ℤ z.n)) hy (omega (arith, ints, k, hy)) in
    omega (arith, ints, a, b)

pub left_wall : (u v : ℤ) → ((pos 0 -ℤ v) *ℤ u) +ℤ (u *ℤ v) ≡ pos 0
left_wall u v =
    ring (plus (times (minus (num (pos 0)) (at 1)) (at 0)) (times (at 0) (at 1))) (num (pos 0))
    (vars (u ∷ v ∷ [])) refl

pub right_wall : (l u m v n : ℤ)
    → (((v -ℤ (l *ℤ n)) *ℤ u) +ℤ (((l *ℤ m) -ℤ u) *ℤ v))
    -ℤ (l *ℤ (((v -ℤ (l *ℤ n)) *ℤ m) +ℤ (((l *ℤ m) -ℤ u) *ℤ n))) ≡ pos 0
right_wall l u m v n =
    let s = minus (at 3) (times (at 0) (at 4)) in
    let t = minus (times (at 0) (at 2)) (at 1) in
    ring (minus (plus (times s (at 1)) (times t (at 3)))
    (times (at 0) (plus (times s (at 2)) (times t (at 4))))) (num (pos 0))
    (vars (l ∷ u ∷ m ∷ v ∷ n ∷ [])) refl

swapped_zero : (a b : ℤ) → a ≡ pos 0 → a *ℤ b ≡ pos 0
swapped_zero a b e = ap (λ (x : ℤ). x *ℤ b) e ∙ omega (arith, ints)

clip : (c : Cap) (u v : Vector) → IsCap c → Place u → Place v → InSlab c u → pos 0 ≤ℤ u.y
    → pos 0 ≤ℤ v.y → pos 0 ≤ℤ shape c v → Clipped c u v
clip c u v hc hu hv slab uy vy out =
    by_lt_z v.x (pos 0)
    (λ (l : v.x <ℤ pos 0). at_left l)
    (λ (l : pos 0 ≤ℤ v.x). by_lt_z (c.chord *ℤ v.n) v.x
    (λ (r : (c.chord *ℤ v.n) <ℤ v.x). at_right r)
    (λ (r : v.x ≤ℤ (c.chord *ℤ v.n)). itself l r))
  where
    ul : pos 0 ≤ℤ u.x
    ul = slab.low

    ur : u.x ≤ℤ (c.chord *ℤ u.n)
    ur = slab.high

    at_left : v.x <ℤ pos 0 → Clipped c u v
    at_left l =
        let s = pos 0 -ℤ v.x in
        let t = u.x in
        let hs : pos 0 ≤ℤ s = omega (arith, ints, l) in
        let some : pos 0 <ℤ (s +ℤ t) = omega (arith, ints, l, ul) in
        let z = mix s u t v in
        let hz = mix_place s u t v hu hv hs ul some in
        let e = left_wall u.x v.x in
        let m = product_positive c.chord z.n hc.chord hz in
        let high = slab_low s t u.y v.y hs ul uy vy in
        record {
          s = s;
          t = t;
          s_least = hs;
          t_least = ul;
          some = some;
          slab = record { low = zero_least _ e; high = zero_most _ _ e m };
          high = high;
          outside = wall_outside c z hc hz (swapped_zero z.x (z.x -ℤ (c.chord *ℤ z.n)) e) high;
        }
      where
        zero_least : (x : ℤ) → x ≡ pos 0 → pos 0 ≤ℤ x
        zero_least x e = omega (arith, ints)

        zero_most : (x m : ℤ) → x ≡ pos 0 → pos 0 <ℤ m → x ≤ℤ m
        zero_most x m e h = omega (arith, ints)

    at_right : (c.chord *ℤ v.n) <ℤ v.x → Clipped c u v
    at_right r =
        let s = v.x -ℤ (c.chord *ℤ v.n) in
        let t = (c.chord *ℤ u.n) -ℤ u.x in
        let hs : pos 0 ≤ℤ s = omega (arith, ints, r) in
        let ht : pos 0 ≤ℤ t = omega (arith, ints, ur) in
        let some : pos 0 <ℤ (s +ℤ t) = omega (arith, ints, r, ur) in
        let z = mix s u t v in
        let hz = mix_place s u t v hu hv hs ht some in
        let e = right_wall c.chord u.x u.n v.x v.n in
        let m = product_positive c.chord z.n hc.chord hz in
        let high = slab_low s t u.y v.y hs ht uy vy in
        record {
          s = s;
          t = t;
          s_least = hs;
          t_least = ht;
          some = some;
          slab = record { low = end_least _ _ e m; high = end_most _ _ e };
          high = high;
          outside = wall_outside c z hc hz (product_of_zero z.x (z.x -ℤ (c.chord *ℤ z.n)) e) high;
        }
      where
        end_least : (x m : ℤ) → x -ℤ m ≡ pos 0 → pos 0 <ℤ m → pos 0 ≤ℤ x
        end_least x m e h = omega (arith, ints)

        end_most : (x m : ℤ) → x -ℤ m ≡ pos 0 → x ≤ℤ m
        end_most x m e = omega (arith, ints)

    itself : pos 0 ≤ℤ v.x → v.x ≤ℤ (c.chord *ℤ v.n) → Clipped c u v
    itself l r = record {
      s = pos 0;
      t = pos 1;
      s_least = omega (arith, ints);
      t_least = omega (arith, ints);
      some = omega (arith, ints);
      slab = subst (λ (z : Vector). InSlab c z) (sym only) record { low = l; high = r };
      high = subst (λ (z : Vector). pos 0 ≤ℤ z.y) (sym only) vy;
      outside = subst (λ (z : Vector). pos 0 ≤ℤ shape c z) (sym only) out;
    }
      where
        one : (x y : ℤ) → (pos 0 *ℤ x) +ℤ (pos 1 *ℤ y) ≡ y
        one x y = ring (plus (times (num (pos 0)) (at 0)) (times (num (pos 1)) (at 1))) (at 1)
            (vars (x ∷ y ∷ [])) refl

        only : mix (pos 0) u (pos 1) v ≡ v
        only = vector_eq _ _ (one u.x v.x) (one u.y v.y) (one u.n v.n)

-- ---- the cover
first_only : (p : Point) (bs : List Bay) (u v : Vector) → InTube p bs u → Reaches p bs u v
first_only p bs u v h = record {
  s = pos 1;
  t = pos 0;
  s_least = omega (arith, ints);
  t_least = omega (arith, ints);
  some = omega (arith, ints);
  there = subst (λ (z : Vector). InTube p bs z)
      (sym (vector_eq _ _ (one u.x v.x) (one u.y v.y) (one u.n v.n))) h;
}
  where
    one : (x y : ℤ) → (pos 1 *ℤ x) +ℤ (pos 0 *ℤ y) ≡ x
    one x y = ring (plus (times (num (pos 1)) (at 0)) (times (num (pos 0)) (at 1))) (at 0)
        (vars (x ∷ y ∷ [])) refl

-- a mix of u and of a mix of u and v
part : (p : Point) (bs : List Bay) (u v : Vector) (s t : ℤ) → pos 0 ≤ℤ s → pos 0 ≤ℤ t
    → pos 0 <ℤ (s +ℤ t) → Reaches p bs u (mix s u t v) → Reaches p bs u v
part p bs u v s t hs ht some m =
    let a = product_nonnegative m.t s m.t_least hs in
    let b = product_nonnegative m.t t m.t_least ht in
    let w = weight_at_most m.t (s +ℤ t) m.t_least some in
    let d = product-sum m.t s t in
    let l = m.s_least in
    let k = m.some in
    record {
      s = m.s +ℤ (m.t *ℤ s);
      t = m.t *ℤ t;
      s_least = omega (arith, ints, a, l);
      t_least = b;
      some = omega (arith, ints, w, d, k);
      there = subst (λ (y : Vector). InTube p bs y) (mix_start m.s m.t s t u v) m.there;
    }

other_way : (p : Point) (bs : List Bay) (s t : ℤ) (u v : Vector) → InBays p bs (mix s u t v)
    → InBays p bs (mix t v s u)
other_way p bs s t u v k = subst (λ (z : Vector). InBays p bs z) (mix_back s t u v) k

pub at_map : (R S : Edge → Vector → Type 0) (z : Vector) (p : Point) (bs : List Bay)
    → ((e : Edge) → R e z → S e z) → AtInner R z p bs → AtInner S z p bs
at_map R S z p [] f h = tt
at_map R S z p (b ∷ rest) f h = ((λ k. f (line p b.inner) (h.0 k)), at_map R S z b.inner rest f h.1)

pub strip_cover : (c : Cap) (p : Point) (b : Bay) (rest : List Bay) (u v : Vector) → IsCap c
    → IsCapStrip c p p (b ∷ rest) → p.x ≡ pos 0 → Place u → Place v
    → pos 0 ≤ℤ u.y → pos 0 ≤ℤ v.y → shape c u ≤ℤ pos 0 → pos 0 ≤ℤ shape c v
    → Reaches p (b ∷ rest) u v
strip_cover c p b rest u v hc h start hu hv uy vy inside outside =
    elim (locate c u p p (b ∷ rest) hu h (left_end u slab.low) slab.high
    (under_fences c u p p (b ∷ rest) hc hu h uy inside)) [
      | inl f ↦ first_only p (b ∷ rest) u v (found_first u p (b ∷ rest) f)
      | inr under ↦ part p (b ∷ rest) u v k.s k.t k.s_least k.t_least k.some (across under)
    ]
  where
    slab : InSlab c u
    slab = cap_slab c u hc hu uy inside

    k : Clipped c u v
    k = clip c u v hc hu hv slab uy vy outside

    w : Vector
    w = mix k.s u k.t v

    hw : Place w
    hw = mix_place k.s u k.t v hu hv k.s_least k.t_least k.some

    left_end : (z : Vector) → pos 0 ≤ℤ z.x → (p.x *ℤ z.n) ≤ℤ z.x
    left_end z l = let e = ap (λ (x : ℤ). x *ℤ z.n) start in omega (arith, ints, e, l)

    over : AtInner NotUnder w p (b ∷ rest)
    over = over_inner c w p p (b ∷ rest) hc hw h k.high k.outside

    across : AtInner NotOver u p (b ∷ rest) → Reaches p (b ∷ rest) u w
    across under = by_lt_z (w.x *ℤ u.n) (u.x *ℤ w.n)
        (λ (l : (w.x *ℤ u.n) <ℤ (u.x *ℤ w.n)).
        let m = crosses under_side c p p b rest w u under_tilt hw hu h
        (left_end w k.slab.low) k.slab.high slab.high (omega (arith, ints, l))
        (at_map NotUnder (Most under_side) w p (b ∷ rest) (λ e y. omega (arith, ints, y)) over)
        (at_map NotOver (Least under_side) u p (b ∷ rest) (λ e y. omega (arith, ints, y)) under) in
        let some = m.some in
        record {
          s = m.t;
          t = m.s;
          s_least = m.t_least;
          t_least = m.s_least;
          some = omega (arith, ints, some);
          there = inl (other_way p (b ∷ rest) m.s m.t w u m.there);
        })
        (λ (l : (u.x *ℤ w.n) ≤ℤ (w.x *ℤ u.n)).
        let m = crosses side c p p b rest u w side_tilt hu hw h
        (left_end u slab.low) slab.high k.slab.high l under over in
        record {
          s = m.s;
          t = m.t;
          s_least = m.s_least;
          t_least = m.t_least;
          some = m.some;
          there = inl m.there;
        })
