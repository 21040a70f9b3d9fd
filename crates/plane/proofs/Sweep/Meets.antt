-- Two edges that are not bad are apart or touch in one end.
-- Two that are bad do neither.
use Rattle.std.proofs.Common.{◌≡◌, ℤ, pos, ◌<ℤ◌, ◌⊎◌, inl, inr, false, refl, arith, ap, sym, ◌∙◌}
use Rattle.std.proofs.Common.{subst, ◌*ℤ◌}
use Rattle.std.proofs.lemmas.Int.{ints}
use Rattle.plane.specs.declared.kinds.Point.{Point}
use Rattle.plane.specs.Forms.Vectors.{Place, point, Same, Edge, sweep, rise}
use Rattle.plane.specs.Forms.Meets.{IsEnd}
use Rattle.plane.specs.Forms.Meets.{OnStraight, Disjoint, Touch, Fine, Bad}
use Rattle.plane.specs.Faces.Parity.{same_point}
use Rattle.plane.proofs.ParityLemmas.Parities.{same_is, same_self}
use Rattle.plane.proofs.ParityLemmas.ByNumber.{by_test}
use Rattle.plane.proofs.ParityLemmas.Wedges.{not_both}
use Rattle.plane.proofs.Linear.Vectors.{rise-is}
use Rattle.plane.proofs.Runs.Meeting.{same_sweep, middle, middle_on}
use Rattle.plane.proofs.Sweep.Fans.{middle_end}
use Rattle.plane.proofs.Sweep.Pairs.{on_straight}

pub apart_fine : (a b : Edge) → Disjoint a b → Fine a b
apart_fine a b h z hz oa ob = absurd (h z hz oa ob)

pub touch_fine : (a b : Edge) → Touch a b → Fine a b
touch_fine a b h z hz oa ob = record {
  at = h.at;
  of_first = h.of_first;
  of_second = h.of_second;
  is = h.only z hz oa ob;
}

pub bad_not_apart : (a b : Edge) → Bad a b → Disjoint a b → ⊥
bad_not_apart a b h k = k h.at h.place h.of_first h.of_second

pub bad_not_touch : (a b : Edge) → Bad a b → Touch a b → ⊥
bad_not_touch a b h k = h.no_end (touch_fine a b k h.at h.place h.of_first h.of_second)

-- ---- points that are equal or not
pub point_test : (p q : Point) → (p ≡ q) ⊎ (p ≡ q → ⊥)
point_test p q =
    by_test (same_point p q) (λ h. inl (same_is p q h))
    (λ h. inr (λ e. not_both (sym (same_self p) ∙ subst (λ r. same_point p r ≡ false) (sym e) h)))

pub end_test : (e : Edge) (p : Point) → IsEnd e p ⊎ (IsEnd e p → ⊥)
end_test e p = elim (point_test e.low p) [
  | inl h ↦ inl (inl h)
  | inr n ↦ elim (point_test e.high p) [
    | inl h ↦ inl (inr h)
    | inr k ↦ inr (λ i. elim i [ inl x ↦ n x | inr x ↦ k x ])
  ]
]

-- a common end, or none
shared : (a b : Edge)
    → ((p : Point) × IsEnd a p × IsEnd b p) ⊎ ((p : Point) → IsEnd a p → IsEnd b p → ⊥)
shared a b = elim (end_test b a.low) [
  | inl h ↦ inl (a.low, inl refl, h)
  | inr n ↦ elim (end_test b a.high) [
    | inl h ↦ inl (a.high, inr refl, h)
    | inr k ↦ inr
        (λ p i j. elim i [
          | inl x ↦ n (subst (λ q. IsEnd b q) (sym x) j)
          | inr x ↦ k (subst (λ q. IsEnd b q) (sym x) j)
        ])
  ]
]

-- two ends of edges that are not bad are one point, if both are common
one_shared : (w : ℤ) (a b : Edge) → pos 0 <ℤ rise w a → pos 0 <ℤ rise w b → Fine a b → (p q : Point)
    → IsEnd a p → IsEnd b p → IsEnd a q → IsEnd b q → p ≡ q
one_shared w a b ra rb fine p q pa pb qa qb = elim (point_test p q) [
  | inl h ↦ h
  | inr n ↦ absurd (two_ends w a b ra rb fine (same_edge w a b ra rb p q n pa pb qa qb))
]
  where
    two_ends : (w : ℤ) (a b : Edge) → pos 0 <ℤ rise w a → pos 0 <ℤ rise w b → Fine a b
        → (a.low ≡ b.low) × (a.high ≡ b.high) → ⊥
    two_ends w a b ra rb fine h =
        let P : Place (middle a) = omega (arith, ints) in
        let oa = on_straight w a (middle a) ra P (middle_on w a ra) in
        let ob : OnStraight b (middle a) = subst
        (λ l. OnStraight (record { low = l; high = b.high }) (middle a)) h.0
        (subst (λ k. OnStraight (record { low = a.low; high = k }) (middle a)) h.1 oa) in
        let c = fine (middle a) P oa ob in
        middle_end w a c.at ra (same_sweep w (middle a) c.at c.is) c.of_first

    crossed : (w : ℤ) (a b : Edge) → pos 0 <ℤ rise w a → pos 0 <ℤ rise w b → a.low ≡ b.high
        → a.high ≡ b.low → ⊥
    crossed w a b ra rb h k =
        let x = rise-is w a in let y = rise-is w b in
        let u = ap (λ p. sweep w (point p)) h in let v = ap (λ p. sweep w (point p)) k in
        omega (arith, ints, ra, rb, x, y, u, v)

    same_edge : (w : ℤ) (a b : Edge) → pos 0 <ℤ rise w a → pos 0 <ℤ rise w b → (p q : Point)
        → (p ≡ q → ⊥) → IsEnd a p → IsEnd b p → IsEnd a q → IsEnd b q
        → (a.low ≡ b.low) × (a.high ≡ b.high)
    same_edge w a b ra rb p q n (inl x) (inl y) (inl u) v = absurd (n (sym x ∙ u))
    same_edge w a b ra rb p q n (inl x) (inl y) (inr u) (inl v) = absurd (n (sym y ∙ v))
    same_edge w a b ra rb p q n (inl x) (inl y) (inr u) (inr v) = (x ∙ sym y, u ∙ sym v)
    same_edge w a b ra rb p q n (inl x) (inr y) (inl u) v = absurd (n (sym x ∙ u))
    same_edge w a b ra rb p q n (inl x) (inr y) (inr u) (inl v) =
        absurd (crossed w a b ra rb (x ∙ sym y) (u ∙ sym v))
    same_edge w a b ra rb p q n (inl x) (inr y) (inr u) (inr v) = absurd (n (sym y ∙ v))
    same_edge w a b ra rb p q n (inr x) (inl y) (inl u) (inl v) = absurd (n (sym y ∙ v))
    same_edge w a b ra rb p q n (inr x) (inl y) (inl u) (inr v) =
        absurd (crossed w a b ra rb (u ∙ sym v) (x ∙ sym y))
    same_edge w a b ra rb p q n (inr x) (inl y) (inr u) v = absurd (n (sym x ∙ u))
    same_edge w a b ra rb p q n (inr x) (inr y) (inl u) (inl v) = (u ∙ sym v, x ∙ sym y)
    same_edge w a b ra rb p q n (inr x) (inr y) (inl u) (inr v) = absurd (n (sym y ∙ v))
    same_edge w a b ra rb p q n (inr x) (inr y) (inr u) v = absurd (n (sym x ∙ u))

-- edges that are not bad are apart or touch
pub fine_cases : (w : ℤ) (a b : Edge) → pos 0 <ℤ rise w a → pos 0 <ℤ rise w b → Fine a b
    → Disjoint a b ⊎ Touch a b
fine_cases w a b ra rb fine = elim (shared a b) [
  | inl (p, pa, pb) ↦ inr (record {
    at = p;
    of_first = pa;
    of_second = pb;
    only = λ z hz oa ob. let c = fine z hz oa ob in
        subst (λ q. Same z (point q))
        (one_shared w a b ra rb fine c.at p c.of_first c.of_second pa pb) c.is;
  })
  | inr n ↦ inl (λ z hz oa ob. let c = fine z hz oa ob in n c.at c.of_first c.of_second)
]

-- ---- an example: two straights that cross in (1, 1)
rising : Edge
rising = record { low = record { x = pos 0; y = pos 0 }; high = record { x = pos 2; y = pos 2 } }

falling : Edge
falling = record { low = record { x = pos 0; y = pos 2 }; high = record { x = pos 2; y = pos 0 } }

cross : Bad rising falling
unfolding rising falling
cross = record {
  at = record { x = pos 1; y = pos 1; n = pos 1 };
  place = omega (arith, ints);
  of_first = record { line = refl; between = omega (arith, ints) };
  of_second = record { line = refl; between = omega (arith, ints) };
  no_end = λ c. other c.at c.of_first c.is.x;
}
  where
    other : (p : Point)
        → IsEnd (record {
          low = record { x = pos 0; y = pos 0 };
          high = record { x = pos 2; y = pos 2 };
        }) p → pos 1 *ℤ pos 1 ≡ p.x *ℤ pos 1 → ⊥
    other p (inl q) h = let e : pos 0 ≡ p.x = ap (λ r. r.x) q in omega (arith, ints, e, h)
    other p (inr q) h = let e : pos 2 ≡ p.x = ap (λ r. r.x) q in omega (arith, ints, e, h)
