-- Two curves that are bad are not apart.
use Rattle.std.proofs.Common.{◌≡◌, ℕ, ◌+◌, ◌-◌, ◌<◌, ℤ, pos, ◌+ℤ◌, ◌*ℤ◌, ◌<ℤ◌, ◌≤ℤ◌, ◌⊎◌, inl, inr}
use Rattle.std.proofs.Common.{[], ◌∷◌, refl, arith, subst, sym, ap, ◌∙◌}
use Rattle.std.proofs.lemmas.Int.{ints}
use Rattle.plane.specs.declared.kinds.Point.{Point}
use Rattle.plane.specs.declared.kinds.Curve.{Curve}
use Rattle.plane.specs.declared.kinds.CurveKind.{CurveKind}
use Rattle.plane.specs.Forms.Vectors.{Vector, Place, Same, point}
use Rattle.plane.specs.Rule.Straights.{IsOnStraight}
use Rattle.plane.specs.Rule.HalfArcs.{HalfArc, bend, IsOnHalfArc, HitsHalfArc}
use Rattle.plane.specs.Rule.Curves.{arc, IsOnKind, HitsKind, IsOn, Hits, IsControl}
use Rattle.plane.specs.Rule.Triangles.{Apart}
use Rattle.plane.specs.Rule.BadPairs.{StraightsMeet, IsEndOf, EndsOn, sixteenth, IsTrialCrossing}
use Rattle.plane.specs.Rule.BadPairs.{HaveNoCommonEnd, IsCrossedOnTrial, AreOneArc, AreBad}
use Rattle.plane.specs.Rule.BadPairs.{straights_meet, end_meets, crossed, one_arc}
use Rattle.plane.proofs.Algebra.Laws.{product_nonnegative}
use Rattle.plane.proofs.Algebra.Ring.{at, num, plus, times, vars, ring}
use Rattle.plane.proofs.Linear.EdgePlaces.{place_point}
use Rattle.plane.proofs.ListLemmas.Points.{point_eq}
use Rattle.plane.proofs.Covers.SamePlace.{same_refl, same_sym, same_trans, first_on, last_on}
use Rattle.plane.proofs.Linear.Straights.{straight_between, between_straight}
use Rattle.plane.proofs.Covers.HalfArcPlaces.{bow_same, from-bow, to-bow}
use Rattle.plane.proofs.Covers.CurvePlaces.{control_on}
use Rattle.plane.proofs.Covers.StraightCovers.{apart_controls, covered_place}
use Rattle.plane.proofs.Covers.OneArc.{summit, summit_place, summit_on, summit_high}
use Rattle.plane.proofs.Covers.SameArc.{through, back, other_circle, other_bow, power-back}
use Rattle.plane.proofs.Covers.SameArc.{bow-back}

pub apart_back : (c d : Curve) → Apart c d → Apart d c
apart_back c d h = record {
  first = h.second;
  second = h.first;
  first_covers = h.second_covers;
  second_covers = h.first_covers;
  apart = λ z Z i j. let both = h.apart z Z j i in (both.1, both.0);
}

meet_not_apart : (c d : Curve) → StraightsMeet c d → Apart c d → ⊥
meet_not_apart c d m h = m.no_control (apart_controls c d h m.z m.place m.on_first m.on_second)

-- ---- an end on the other curve
end_control : (c : Curve) (p : Point) → IsEndOf c p → IsControl c (point p)
end_control c p (inl e) =
    inl (subst (λ (q : Point). Same (point p) (point q)) (sym e) (same_refl (point p)))
end_control c p (inr e) =
    inr (subst (λ (q : Point). Same (point p) (point q)) (sym e) (same_refl (point p)))

end_not_apart : (c d : Curve) → EndsOn c d → Apart c d → ⊥
end_not_apart c d m h =
    let P = place_point m.at in
    m.no_control
    (apart_controls c d h (point m.at) P
    (control_on c (point m.at) P (end_control c m.at m.of_first)) m.on_second).1

ends_not_apart : (c d : Curve) → EndsOn c d ⊎ EndsOn d c → Apart c d → ⊥
ends_not_apart c d (inl m) h = end_not_apart c d m h
ends_not_apart c d (inr m) h = end_not_apart d c m (apart_back c d h)

-- ---- a trial crossing
-- a mean of two sixteenths is a mean of the ends
weighed : (a b k l m n s t : ℤ) → k +ℤ l ≡ pos 16 → m +ℤ n ≡ pos 16 → (z zn pn qn : ℤ)
    → z *ℤ ((s *ℤ pos 16) +ℤ (t *ℤ pos 16))
    ≡ ((s *ℤ ((k *ℤ a) +ℤ (l *ℤ b))) +ℤ (t *ℤ ((m *ℤ a) +ℤ (n *ℤ b)))) *ℤ zn
    → z *ℤ ((((s *ℤ k) +ℤ (t *ℤ m)) *ℤ pos 1) +ℤ (((s *ℤ l) +ℤ (t *ℤ n)) *ℤ pos 1))
    ≡ ((((s *ℤ k) +ℤ (t *ℤ m)) *ℤ a) +ℤ (((s *ℤ l) +ℤ (t *ℤ n)) *ℤ b)) *ℤ zn
weighed a b k l m n s t kl mn z zn pn qn e =
    let E = vars (a ∷ b ∷ k ∷ l ∷ m ∷ n ∷ s ∷ t ∷ z ∷ zn ∷ []) in
    let one = num (pos 1) in
    let i = ring
    (times (at 8)
    (plus (times (plus (times (at 6) (at 2)) (times (at 7) (at 4))) one)
    (times (plus (times (at 6) (at 3)) (times (at 7) (at 5))) one)))
    (times (at 8) (plus (times (at 6) (plus (at 2) (at 3))) (times (at 7) (plus (at 4) (at 5))))) E
    refl in
    let j = ring
    (times (plus (times (plus (times (at 6) (at 2)) (times (at 7) (at 4))) (at 0))
    (times (plus (times (at 6) (at 3)) (times (at 7) (at 5))) (at 1))) (at 9))
    (times (plus (times (at 6) (plus (times (at 2) (at 0)) (times (at 3) (at 1))))
    (times (at 7) (plus (times (at 4) (at 0)) (times (at 5) (at 1))))) (at 9)) E refl in
    i ∙ ap (λ (v : ℤ). z *ℤ ((s *ℤ v) +ℤ (t *ℤ (m +ℤ n)))) kl
    ∙ ap (λ (v : ℤ). z *ℤ ((s *ℤ pos 16) +ℤ (t *ℤ v))) mn ∙ e ∙ sym j

sixteenths : (k : ℕ) → k < 16
    → (pos (16 - k) +ℤ pos k ≡ pos 16) × (pos (16 - (k + 1)) +ℤ pos (k + 1) ≡ pos 16)
sixteenths k h = (omega (arith, ints, h), omega (arith, ints, h))

pub on_sixteenths : (c : Curve) (k : ℕ) → k < 16 → (z : Vector) → Place z
    → IsOnStraight (sixteenth c k) (sixteenth c (k + 1)) z
    → IsOnStraight (point c.from) (point c.to) z
on_sixteenths c k h z Z on =
    let P : Place (sixteenth c k) = omega (arith, ints) in
    let Q : Place (sixteenth c (k + 1)) = omega (arith, ints) in
    let b = straight_between (sixteenth c k) (sixteenth c (k + 1)) z P Q Z on in
    let sums = sixteenths k h in
    let u0 = product_nonnegative b.s (pos (16 - k)) b.s_least (least (16 - k)) in
    let u1 = product_nonnegative b.t (pos (16 - (k + 1))) b.t_least (least (16 - (k + 1))) in
    let v0 = product_nonnegative b.s (pos k) b.s_least (least k) in
    let v1 = product_nonnegative b.t (pos (k + 1)) b.t_least (least (k + 1)) in
    between_straight (point c.from) (point c.to) z (place_point c.from) (place_point c.to) Z
    (record {
      s = (b.s *ℤ pos (16 - k)) +ℤ (b.t *ℤ pos (16 - (k + 1)));
      t = (b.s *ℤ pos k) +ℤ (b.t *ℤ pos (k + 1));
      s_least = both _ _ u0 u1;
      t_least = both _ _ v0 v1;
      some = some b.s b.t (pos (16 - k)) (pos k) (pos (16 - (k + 1)))
          (pos (k + 1)) sums.0 sums.1 b.some;
      is = record {
        x = weighed c.from.x c.to.x (pos (16 - k)) (pos k) (pos (16 - (k + 1)))
            (pos (k + 1)) b.s b.t sums.0 sums.1 z.x z.n (pos 16) (pos 16) b.is.x;
        y = weighed c.from.y c.to.y (pos (16 - k)) (pos k) (pos (16 - (k + 1)))
            (pos (k + 1)) b.s b.t sums.0 sums.1 z.y z.n (pos 16) (pos 16) b.is.y;
      };
    })
  where
    least : (n : ℕ) → pos 0 ≤ℤ pos n
    least n = omega (arith, ints)

    both : (a b : ℤ) → pos 0 ≤ℤ a → pos 0 ≤ℤ b → pos 0 ≤ℤ (a +ℤ b)
    both a b h k = omega (arith, ints, h, k)

    some : (s t k l m n : ℤ) → k +ℤ l ≡ pos 16 → m +ℤ n ≡ pos 16 → pos 0 <ℤ (s +ℤ t)
        → pos 0 <ℤ (((s *ℤ k) +ℤ (t *ℤ m)) +ℤ ((s *ℤ l) +ℤ (t *ℤ n)))
    some s t k l m n kl mn h =
        let i = ring
        (plus (plus (times (at 0) (at 2)) (times (at 1) (at 4)))
        (plus (times (at 0) (at 3)) (times (at 1) (at 5))))
        (plus (times (at 0) (plus (at 2) (at 3))) (times (at 1) (plus (at 4) (at 5))))
        (vars (s ∷ t ∷ k ∷ l ∷ m ∷ n ∷ [])) refl in
        let j = ap (λ (v : ℤ). s *ℤ v) kl in
        let g = ap (λ (v : ℤ). t *ℤ v) mn in
        omega (arith, ints, i, j, g, h)

trial_hits : (h : HalfArc) (p q : Vector) → Place p → Place q → IsTrialCrossing h p q
    → HitsHalfArc h p q
trial_hits h p q P Q t = elim t.changes [
  | inl s ↦ let a = s.0 in let b = s.1 in record {
    u = p;
    v = q;
    u_place = P;
    v_place = Q;
    u_of_segment = first_on p q P Q;
    v_of_segment = last_on p q P Q;
    u_away = t.first_away;
    v_away = t.second_away;
    u_not_outside = omega (arith, ints, a);
    v_not_inside = omega (arith, ints, b);
  }
  | inr s ↦ let a = s.0 in let b = s.1 in record {
    u = q;
    v = p;
    u_place = Q;
    v_place = P;
    u_of_segment = last_on p q P Q;
    v_of_segment = first_on p q P Q;
    u_away = t.second_away;
    v_away = t.first_away;
    u_not_outside = omega (arith, ints, b);
    v_not_inside = omega (arith, ints, a);
  }
]

pub control_end : (c : Curve) (z : Vector) → IsControl c z
    → (p : Point) × IsEndOf c p × Same z (point p)
control_end c z (inl h) = (c.from, inl refl, h)
control_end c z (inr h) = (c.to, inr refl, h)

pub one_point : (p q : Point) → Same (point p) (point q) → p ≡ q
one_point p q h =
    let x = h.x in let y = h.y in point_eq p q (omega (arith, ints, x)) (omega (arith, ints, y))

no_common_control : (c d : Curve) → HaveNoCommonEnd c d → (z : Vector) → Place z
    → IsControl c z × IsControl d z → ⊥
no_common_control c d none z Z both =
    let (p, of_c, zp) = control_end c z both.0 in
    let (q, of_d, zq) = control_end d z both.1 in
    let e = one_point p q (same_trans (point p) z (point q) Z (same_sym z (point p) zp) zq) in
    none p of_c (subst (λ (r : Point). IsEndOf d r) (sym e) of_d)

trial_not_apart : (c d : Curve) → IsCrossedOnTrial c d → Apart c d → ⊥
trial_not_apart c d t h =
    let p = sixteenth c t.k in
    let q = sixteenth c (t.k + 1) in
    let P : Place p = omega (arith, ints) in
    let Q : Place q = omega (arith, ints) in
    let hit : Hits d p q = subst (λ (k : CurveKind). HitsKind k d p q) (sym t.half_arc)
    (trial_hits (arc d) p q P Q t.crossing) in
    let (z, Z, of_segment, in_second) = h.second_covers p q P Q hit in
    let on : IsOn c z = subst (λ (k : CurveKind). IsOnKind k c z) (sym t.straight)
    (on_sixteenths c t.k t.within z Z of_segment) in
    no_common_control c d t.no_common z Z
    (h.apart z Z (covered_place h.first c h.first_covers z Z on) in_second)

-- ---- one arc twice
summit_on_other : (c d : Curve) → AreOneArc c d → IsOnHalfArc (arc d) (summit (arc c))
summit_on_other c d a =
    let z = summit (arc c) in
    let k = through (arc c) d.third in
    let bent = a.has_side.circle.bent in
    let on : IsOnHalfArc k z = record {
      circle = other_circle (arc c) d.third bent a.on_circle;
      away = other_bow (arc c) d.third a.one_side;
    } in
    elim a.same_ends [
      | inl e ↦ subst
          (λ (q : Point). IsOnHalfArc (record { from = d.from; to = q; third = d.third }) z) e.1
          (subst (λ (p : Point). IsOnHalfArc (record { from = p; to = c.to; third = d.third }) z)
          e.0 on)
      | inr e ↦
          let turned : IsOnHalfArc (back k) z = record {
            circle = power-back k z ∙ on.circle;
            away = subst (λ (v : ℤ). pos 0 ≤ℤ v) (sym (bow-back k z)) on.away;
          } in
          subst (λ (q : Point). IsOnHalfArc (record { from = d.from; to = q; third = d.third }) z)
          e.0 (subst (λ (p : Point). IsOnHalfArc (record {
            from = p;
            to = c.from;
            third = d.third;
          }) z) e.1 turned)
    ]

flat : (z zn b : ℤ) → pos 1 *ℤ z ≡ zn *ℤ b → b ≡ pos 0 → pos 0 <ℤ z → ⊥
flat z zn b e f h = let k = ap (λ (v : ℤ). zn *ℤ v) f in omega (arith, ints, e, k, h)

summit_no_control : (c : Curve) → (bend (arc c) ≡ pos 0 → ⊥) → IsControl c (summit (arc c)) → ⊥
summit_no_control c n (inl h) =
    flat _ _ _ (bow_same (arc c) (summit (arc c)) (point c.from) h) (from-bow (arc c))
    (summit_high (arc c) n)
summit_no_control c n (inr h) =
    flat _ _ _ (bow_same (arc c) (summit (arc c)) (point c.to) h) (to-bow (arc c))
    (summit_high (arc c) n)

arc_not_apart : (c d : Curve) → AreOneArc c d → Apart c d → ⊥
arc_not_apart c d a h =
    let z = summit (arc c) in
    let bent = a.has_side.circle.bent in
    let Z = summit_place (arc c) bent in
    let on_c : IsOn c z = subst (λ (k : CurveKind). IsOnKind k c z) (sym a.first)
    (summit_on (arc c) bent) in
    let on_d : IsOn d z = subst (λ (k : CurveKind). IsOnKind k d z) (sym a.second)
    (summit_on_other c d a) in
    summit_no_control c bent (apart_controls c d h z Z on_c on_d).0

pub bad_not_apart : (c d : Curve) → AreBad c d → Apart c d → ⊥
bad_not_apart c d (straights_meet m) h = meet_not_apart c d m h
bad_not_apart c d (end_meets m) h = ends_not_apart c d m.ends h
bad_not_apart c d (crossed (inl t)) h = trial_not_apart c d t h
bad_not_apart c d (crossed (inr t)) h = trial_not_apart d c t (apart_back c d h)
bad_not_apart c d (one_arc a) h = arc_not_apart c d a h
