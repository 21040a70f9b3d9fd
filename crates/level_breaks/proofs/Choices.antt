-- What tests say, one after the other and in a loop, and of a product by its signs.
use Rattle.std.proofs.Common.{◌≡◌, ◌↔◌, ◌⊎◌, inl, inr, ℕ, ◌∷◌, ◌+◌, ◌<◌, ◌≤◌, Bool, true, false}
use Rattle.std.proofs.Common.{IsTrue, ℤ, pos, ◌*ℤ◌, ◌-ℤ◌, ◌<ℤ◌, ◌≤ℤ◌, refl, arith, ap, sym, ◌∙◌}
use Rattle.std.proofs.Common.{subst, []}
use Rattle.std.proofs.lemmas.Int.{ints, by_lt_z}
use Rattle.plane.specs.Forms.Vectors.{point}
use Rattle.plane.specs.Rule.Curves.{arc}
use Rattle.plane.specs.Rule.HalfArcs.{bend, bow}
use Rattle.plane.specs.Rule.Turns.{cross}
use Rattle.plane.specs.declared.kinds.Curve.{Curve}
use Rattle.plane.specs.declared.kinds.Point.{Point}
use Rattle.plane.proofs.Algebra.Laws.{product_nonnegative}
use Rattle.plane.proofs.Algebra.Ring.{at, minus, num, ring, times, vars}
use Rattle.plane.proofs.Algebra.Scaling.{product_negative}
use Rattle.straight_predicates.proofs.Orders.{by_lt}

pub clash : {P : Type 0} → false ≡ true → P
clash e = cc

pub refuted : (A : Type 0) (r : Bool) → (IsTrue r ↔ A) → r ≡ false → A → ⊥
refuted A r h f a = clash (sym f ∙ h.1 a)

-- both
pub both_of : (A B N : Type 0) (b : Bool) → (IsTrue b ↔ B) → A → ((A × B) ↔ N) → IsTrue b ↔ N
both_of A B N b h a n = ((λ t. n.0 (a, h.0 t)), (λ k. h.1 (n.1 k).1))

pub none_of : (A B N : Type 0) (b : Bool) → (IsTrue b ↔ A) → b ≡ false → ((A × B) ↔ N)
    → IsTrue b ↔ N
none_of A B N b h e n = ((λ t. clash (sym e ∙ t)), (λ k. h.1 (n.1 k).0))

-- one of two
pub either_first : (A B N : Type 0) (a : Bool) → (IsTrue a ↔ A) → a ≡ true → ((A ⊎ B) ↔ N)
    → IsTrue a ↔ N
either_first A B N a h e n = ((λ t. n.0 (inl (h.0 t))), (λ k. e))

pub either_second : (A B N : Type 0) (a b : Bool) → (IsTrue a ↔ A) → a ≡ false → (IsTrue b ↔ B)
    → ((A ⊎ B) ↔ N) → IsTrue b ↔ N
either_second A B N a b h e k n = (
  (λ t. n.0 (inr (k.0 t))),
  (λ x. elim (n.1 x) [ inl y ↦ absurd (refuted A a h e y) | inr y ↦ k.1 y ]),
)

pub itself : (A : Type 0) → A ↔ A
itself A = ((λ a. a), (λ a. a))

-- ---- in a loop
pub none_more : (P : ℕ → Type 0) (n : ℕ) → ((k : ℕ) → k < n → P k → ⊥) → (P n → ⊥) → (k : ℕ)
    → k < n + 1 → P k → ⊥
none_more P n f g k l p =
    by_lt k n (λ (m : k < n). f k m p) (λ (m : n ≤ k). g (subst P (omega (arith, l, m)) p))

pub some_now : (P : ℕ → Type 0) (n k : ℕ) → k < n → P k → IsTrue true ↔ ((k : ℕ) × (k < n) × P k)
some_now P n k l h = ((λ t. (k, l, h)), (λ s. refl))

pub none_at_all : (P : ℕ → Type 0) (m n : ℕ) → m ≤ n → ((k : ℕ) → k < n → P k → ⊥)
    → IsTrue false ↔ ((k : ℕ) × (k < m) × P k)
none_at_all P m n l f = ((λ t. clash t), (λ (k, lk, h). absurd (f k (omega (arith, l, lk)) h)))

-- ---- on which side of a chord
pub bow_is : (c : Curve) (p : Point)
    → bow (arc c) (point p) ≡ pos 0 -ℤ (cross c.from c.to c.third *ℤ cross c.from c.to p)
unfolding bow bend
bow_is c p = ring
    (minus (num (pos 0))
    (times (minus (times (minus (at 2) (at 0)) (minus (at 5) (at 1)))
    (times (minus (at 3) (at 1)) (minus (at 4) (at 0))))
    (minus (times (minus (at 2) (at 0)) (minus (at 7) (times (at 1) (num (pos 1)))))
    (times (minus (at 3) (at 1)) (minus (at 6) (times (at 0) (num (pos 1))))))))
    (minus (num (pos 0))
    (times (minus (times (minus (at 2) (at 0)) (minus (at 5) (at 1)))
    (times (minus (at 3) (at 1)) (minus (at 4) (at 0))))
    (minus (times (minus (at 2) (at 0)) (minus (at 7) (at 1)))
    (times (minus (at 3) (at 1)) (minus (at 6) (at 0))))))
    (vars (c.from.x ∷ c.from.y ∷ c.to.x ∷ c.to.y ∷ c.third.x ∷ c.third.y ∷ p.x ∷ p.y ∷ [])) refl

turned_product : (a b : ℤ) → (pos 0 -ℤ a) *ℤ (pos 0 -ℤ b) ≡ a *ℤ b
turned_product a b =
    ring (times (minus (num (pos 0)) (at 0)) (minus (num (pos 0)) (at 1))) (times (at 0) (at 1))
    (vars (a ∷ b ∷ [])) refl

pub low_by_left : (c : Curve) (p : Point) → pos 0 <ℤ cross c.from c.to c.third
    → (pos 0 ≤ℤ cross c.from c.to p) ↔ (bow (arc c) (point p) ≤ℤ pos 0)
low_by_left c p d =
    let e = bow_is c p in (
      (λ h. let q = product_nonnegative (cross c.from c.to c.third) (cross c.from c.to p)
          (omega (arith, ints, d)) h in omega (arith, ints, e, q)),
      (λ l. by_lt_z (cross c.from c.to p) (pos 0)
          (λ (n : cross c.from c.to p <ℤ pos 0). let q = product_negative
          (cross c.from c.to c.third) (cross c.from c.to p) d n in
          absurd (omega (arith, ints, e, q, l)))
          (λ (n : pos 0 ≤ℤ cross c.from c.to p). n)),
    )

pub low_by_right : (c : Curve) (p : Point) → cross c.from c.to c.third <ℤ pos 0
    → (cross c.from c.to p ≤ℤ pos 0) ↔ (bow (arc c) (point p) ≤ℤ pos 0)
low_by_right c p d =
    let e = bow_is c p in
    let D = cross c.from c.to c.third in
    let X = cross c.from c.to p in
    let t = turned_product D X in (
      (λ h. let q = product_nonnegative (pos 0 -ℤ D) (pos 0 -ℤ X) (omega (arith, ints, d))
          (omega (arith, ints, h)) in omega (arith, ints, e, q, t)),
      (λ l. by_lt_z (pos 0) X
          (λ (n : pos 0 <ℤ X). let q = product_negative (pos 0 -ℤ D) (pos 0 -ℤ X)
          (omega (arith, ints, d)) (omega (arith, ints, n)) in
          absurd (omega (arith, ints, e, q, t, l)))
          (λ (n : X ≤ℤ pos 0). n)),
    )

pub low_by_none : (c : Curve) (p : Point) → cross c.from c.to c.third ≡ pos 0
    → bow (arc c) (point p) ≤ℤ pos 0
low_by_none c p d =
    let e = bow_is c p in
    let q = ap (λ (z : ℤ). z *ℤ cross c.from c.to p) d in
    omega (arith, ints, e, q)

pub by_equal : (b : Bool) (A B : Type 0) → (IsTrue b ↔ A) → (A ↔ B) → IsTrue b ↔ B
by_equal b A B h i = ((λ t. i.0 (h.0 t)), (λ x. h.1 (i.1 x)))
