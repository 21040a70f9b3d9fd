-- Two places over the circle's lower part have one sign where the segment between them does not hit
-- the half arc.
use Rattle.std.proofs.Common.{◌≡◌, ℤ, pos, ◌+ℤ◌, ◌*ℤ◌, ◌-ℤ◌, ◌<ℤ◌, ◌≤ℤ◌, ◌⊎◌, inl, inr, [], ◌∷◌}
use Rattle.std.proofs.Common.{refl, arith, subst, sym}
use Rattle.std.proofs.lemmas.Int.{ints, by_lt_z}
use Rattle.plane.specs.Forms.Vectors.{Vector, Place, mix, Between}
use Rattle.plane.specs.Forms.Arcs.{HalfArc, power, bow, seen, SameSign}
use Rattle.plane.proofs.HalfArcs.HitWords.{HitsArc}
use Rattle.plane.specs.Tubes.Caps.{IsCap, shape, InSlab, cap}
use Rattle.plane.proofs.Caps.CapWords.{IsOver}
use Rattle.plane.proofs.Linear.Signs.{mix_place, mix_between, between_back}
use Rattle.plane.proofs.Algebra.Ring.{at, num, plus, times, vars, ring}
use Rattle.plane.proofs.Caps.ChordCircle.{chord_inside}
use Rattle.plane.proofs.Caps.CapOver.{level-y, slab_mix}
use Rattle.plane.proofs.Caps.Seen.{seen-mix, power_below, power_most}

pub between_first : (p q : Vector) → Between p p q
between_first p q = record {
  s = pos 1;
  t = pos 0;
  s_least = omega (arith, ints);
  t_least = omega (arith, ints);
  some = omega (arith, ints);
  is = record { x = one p.x p.n q.x q.n; y = one p.y p.n q.y q.n };
}
  where
    one : (x n u m : ℤ) → x *ℤ ((pos 1 *ℤ n) +ℤ (pos 0 *ℤ m)) ≡ ((pos 1 *ℤ x) +ℤ (pos 0 *ℤ u)) *ℤ n
    one x n u m =
        ring (times (at 0) (plus (times (num (pos 1)) (at 1)) (times (num (pos 0)) (at 3))))
        (times (plus (times (num (pos 1)) (at 0)) (times (num (pos 0)) (at 2))) (at 1))
        (vars (x ∷ n ∷ u ∷ m ∷ [])) refl

pub hits_back : (h : HalfArc) (p q : Vector) → HitsArc h p q → HitsArc h q p
hits_back h p q k = record {
  u = k.u;
  v = k.v;
  u_place = k.u_place;
  v_place = k.v_place;
  u_between = between_back k.u p q k.u_between;
  v_between = between_back k.v p q k.v_between;
  u_away = k.u_away;
  v_away = k.v_away;
  u_in = k.u_in;
  v_out = k.v_out;
}

pub over_away : (h : HalfArc) (v : Vector) → IsCap (cap h) → IsOver (cap h) (seen h v)
    → pos 0 ≤ℤ power h v → pos 0 ≤ℤ bow h v
over_away h v hc o k = away o.over
  where
    away : (shape (cap h) (seen h v) <ℤ pos 0) ⊎ (pos 0 ≤ℤ bow h v) → pos 0 ≤ℤ bow h v
    away (inl l) = let m = power_below h v hc l in absurd (omega (arith, ints, m, k))
    away (inr l) = l

-- from a place that is not outside to one that is not inside the segment hits the half arc
pub crossing_hit : (h : HalfArc) (p q : Vector) → IsCap (cap h) → Place p → Place q
    → IsOver (cap h) (seen h p) → IsOver (cap h) (seen h q)
    → power h p ≤ℤ pos 0 → pos 0 ≤ℤ power h q → HitsArc h p q
crossing_hit h p q hc hp hq op oq a b =
    let away = over_away h q hc oq b in
    by_lt_z (bow h p) (pos 0)
    (λ (l : bow h p <ℤ pos 0).
    let m = pos 0 -ℤ bow h p in
    let m_least : pos 0 ≤ℤ m = omega (arith, ints, l) in
    let sum : pos 0 <ℤ (bow h q +ℤ m) = omega (arith, ints, l, away) in
    let z = mix (bow h q) p m q in
    let e = seen-mix h (bow h q) p m q in
    let zero : bow h z ≡ pos 0 = subst (λ (v : Vector). v.y ≡ pos 0) (sym e)
    (level-y (seen h p) (seen h q)) in
    let slab : InSlab (cap h) (seen h z) = subst (λ (v : Vector). InSlab (cap h) v) (sym e)
    (slab_mix (cap h) (bow h q) (seen h p) m (seen h q) away m_least op.slab oq.slab) in
    record {
      u = z;
      v = q;
      u_place = mix_place (bow h q) p m q hp hq away m_least sum;
      v_place = hq;
      u_between = mix_between (bow h q) p m q away m_least sum;
      v_between = between_back q q p (between_first q p);
      u_away = omega (arith, ints, zero);
      v_away = away;
      u_in = power_most h z hc (chord_inside (cap h) (seen h z) hc slab zero);
      v_out = b;
    })
    (λ (l : pos 0 ≤ℤ bow h p). record {
      u = p;
      v = q;
      u_place = hp;
      v_place = hq;
      u_between = between_first p q;
      v_between = between_back q q p (between_first q p);
      u_away = l;
      v_away = away;
      u_in = a;
      v_out = b;
    })

pub sign_kept : (h : HalfArc) (p q : Vector) → IsCap (cap h) → Place p → Place q
    → IsOver (cap h) (seen h p) → IsOver (cap h) (seen h q) → (HitsArc h p q → ⊥) → SameSign h p q
sign_kept h p q hc hp hq op oq miss =
    let on : power h p ≤ℤ pos 0 → pos 0 ≤ℤ power h q
    → SameSign h p q = λ a b. absurd (miss (crossing_hit h p q hc hp hq op oq a b)) in
    let back : power h q ≤ℤ pos 0 → pos 0 ≤ℤ power h p
    → SameSign h p q =
    λ a b. absurd (miss (hits_back h q p (crossing_hit h q p hc hq hp oq op a b))) in
    by_lt_z (power h p) (pos 0)
    (λ (a : power h p <ℤ pos 0). by_lt_z (power h q) (pos 0)
    (λ (b : power h q <ℤ pos 0). inl (a, b))
    (λ (b : pos 0 ≤ℤ power h q). on (omega (arith, ints, a)) b))
    (λ (a : pos 0 ≤ℤ power h p). by_lt_z (pos 0) (power h q)
    (λ (b : pos 0 <ℤ power h q). by_lt_z (pos 0) (power h p)
    (λ (d : pos 0 <ℤ power h p). inr (d, b))
    (λ (d : power h p ≤ℤ pos 0). on d (omega (arith, ints, b))))
    (λ (b : power h q ≤ℤ pos 0). back b a))
